-- The whole walk: x, the rest of the chain and the target, one after the other. Assumes nothing.
use mathlib.Core.Path.{◌≡◌, refl, sym, ap, ap₂, ◌∙◌, subst}
use mathlib.Core.Bool.{true, false}
use mathlib.Core.List.{List, map}
use Prim.Native.Nat.{ℕ, zero, suc, ◌+◌, ◌-◌, ◌*◌, ◌≤◌, ◌<◌}
use native.Mathlib.Omega.{arith}
use lib.ListN.{length, get_or, replicate, length-replicate, length-append}
use Rattle.words.specs.Lists.{mem, range, upto, filter}
use Rattle.words.proofs.Bools.{clash}
use Rattle.words.proofs.Lists.{made_ext}
use Rattle.words.proofs.Members.{in_map, filter_in, range_in, not_in_mem}
use Rattle.model.specs.Picture.{Inst, inst, absent, writes}
use Rattle.model.specs.Move.{Job, appended, own_jobs}
use Rattle.inst.proofs.Words.{word_is}
use Rattle.pool.specs.Pool.{wrote_at}
use Rattle.rename.specs.Names.{named, pick}
use Rattle.rename.specs.Runs.{Line, Operands, Run, goes, rd_after, rd_rest, gone_places, gone_jobs, target_jobs, AskX, PassedX, AskRest, PassedRest, AskOwn}
use Rattle.rename.specs.Counts.{CountX, CountedX, CountOwn}
use Rattle.rename.specs.All.{AskAll, all_rd, all_jobs, all_places}
use Rattle.rename.proofs.Naming.{named_none}
use Rattle.rename.proofs.Sequence.{appended_append}
use Rattle.rename.proofs.Both.{Lists, appended_same, run_append}
use Rattle.rename.proofs.Lines.{line_still, still, operands_still}
use Rattle.rename.proofs.Passing.{funext}

-- a place outside x
pub outside : (w : List ℕ) (lo m q : ℕ) → (lo ≤ q → lo + m ≤ q) → mem q (gone_places w lo m) ≡ false
outside w lo m q h = not_in_mem q (gone_places w lo m) (λ i.
    let a = in_map (λ z. lo + z) q (filter (goes w) (upto m)) i in
    let b = range_in a.0 0 m (filter_in (goes w) a.0 (upto m) a.1).0 in
    let c = b.1 in
    let d = a.2 in
    let e = h (omega arith) in
    omega arith)

-- the names after the rest of the chain, by records that are the same
rest_same : (rd : ℕ → ℕ) (w xs ys : List ℕ) (a k : ℕ) → ((i : ℕ) → i < k → inst ys (get_or w (10 * (a + i)) 0) ≡ inst xs (get_or w (10 * (a + i)) 0)) → (y : ℕ) → rd_rest rd w ys a k y ≡ rd_rest rd w xs a k y
unfolding rd_rest
rest_same rd w xs ys a zero h y = refl
rest_same rd w xs ys a (suc k) h y = ap₂ (λ (i : Inst) (v : ℕ). pick (mem y (writes i)) y v) (h k (omega arith)) (rest_same rd w xs ys a k (λ i l. h i (omega arith)) y)

target_same : (rd : ℕ → ℕ) (xs ys : List ℕ) (a e : ℕ) → ((q : ℕ) → a ≤ q → q < e → inst ys q ≡ inst xs q) → target_jobs rd ys a e ≡ target_jobs rd xs a e
target_same rd xs ys a e h = ap (own_jobs rd) (made_ext (inst ys) (inst xs) a (e - a) (λ q u v. h q u (omega arith)))

own_lists : (u : ℕ) (xs : List ℕ) (k s : ℕ) (rd : ℕ → ℕ) → ((q : ℕ) → s ≤ q → q < s + k → get_or (inst xs q) 7 0 + get_or (inst xs q) 8 0 ≤ u) → Lists u (own_jobs rd (map (inst xs) (range s k)))
own_lists u xs zero s rd h = tt
own_lists u xs (suc k) s rd h =
    (h s (omega arith) (omega arith), own_lists u xs k (suc s) (λ r. elim (mem r (writes (inst xs s))) as (λ z. ℕ) [ true ↦ r | false ↦ rd r ]) (λ q a b. h q (omega arith) (omega arith)))

module _ {u lo m n a e R : ℕ} {xs ops w ws : List ℕ} (k : AskAll u lo m n a e R xs ops w) (clear : ws ≡ replicate R absent) where
  -- at first nothing has a new name
  ws_long : length ws ≡ R
  ws_long = ap length clear ∙ length-replicate R absent

  no_names : named ws ≡ (λ r. r)
  no_names = ap named clear ∙ funext (named (replicate R absent)) (λ r. r) (named_none R)

  jobs_x : gone_jobs (named ws) w xs lo m ≡ gone_jobs (λ r. r) w xs lo m
  jobs_x = ap (λ (f : ℕ → ℕ). gone_jobs f w xs lo m) no_names

  x_line : (p : ℕ) → p < m → Line (length ws) u xs (lo + p)
  x_line p h = subst (λ (z : ℕ). Line z u xs (lo + p)) (sym ws_long) (k.x_lines p h)

  x_ops : Operands (length ws) u ops
  x_ops = subst (λ (z : ℕ). Operands z u ops) (sym ws_long) k.operands

  x_wrote : (p : ℕ) → p < m → (wrote_at w p ≡ absent → ⊥) → wrote_at w p < length ws
  x_wrote p h f = subst (λ (z : ℕ). wrote_at w p < z) (sym ws_long) (k.wrote_ok p h f)

  x_words : 10 * m ≤ length w
  x_words = let a = k.words in let b = k.chain in omega arith

  total : length (appended ops (all_jobs w xs lo m n a e)) ≡ length (appended ops (gone_jobs (λ r. r) w xs lo m)) + length (appended ops (target_jobs (all_rd w xs lo m n) xs a e))
  total = ap length (appended_append ops (gone_jobs (λ r. r) w xs lo m) (target_jobs (all_rd w xs lo m n) xs a e)) ∙ length-append (appended ops (gone_jobs (λ r. r) w xs lo m)) (appended ops (target_jobs (all_rd w xs lo m n) xs a e))

  -- the names after x, and after the chain
  after_x : (ws₁ : List ℕ) → ((y : ℕ) → named ws₁ y ≡ rd_after (named ws) w xs lo m y) → named ws₁ ≡ rd_after (λ r. r) w xs lo m
  after_x ws₁ h = funext (named ws₁) (rd_after (λ r. r) w xs lo m) (λ y. h y ∙ ap (λ (f : ℕ → ℕ). rd_after f w xs lo m y) no_names)

  after_chain : (ws₁ ws₂ : List ℕ) → named ws₁ ≡ rd_after (λ r. r) w xs lo m → ((y : ℕ) → named ws₂ y ≡ rd_rest (named ws₁) w xs m (n - m) y) → named ws₂ ≡ all_rd w xs lo m n
  after_chain ws₁ ws₂ g h = funext (named ws₂) (all_rd w xs lo m n) (λ y. h y ∙ ap (λ (f : ℕ → ℕ). rd_rest f w xs m (n - m) y) g)

  -- ---- counted

  pub count_x_ask : CountX u lo m ws xs ops w
  count_x_ask = record { lines = x_line; operands = x_ops; words = x_words; fits = k.x_fits; few = k.few; wrote_ok = x_wrote }

  module _ (ws₁ : List ℕ) {c : ℕ} (x : CountedX lo m ws ws₁ xs ops w c) where
    size₁ : length ws₁ ≡ R
    size₁ = x.names_size ∙ ws_long

    pub count-rest_ask : AskRest u m n ws₁ xs w
    count-rest_ask = record { order = k.chain; words = k.words; lines = λ p a b. subst (λ (z : ℕ). Line z u xs (get_or w (10 * p) 0)) (sym size₁) (k.rest_lines p a b) }

    module _ (ws₂ : List ℕ) (y : PassedRest m (n - m) ws₁ ws₂ xs w) where
      size₂ : length ws₂ ≡ R
      size₂ = y.names_size ∙ size₁

      pub count_target_ask : CountOwn u a e ws₂ xs ops × (c ≤ 4294967295 * 65536)
      count_target_ask = (
        record {
          order = k.order;
          few = k.few_records;
          lines = λ q a b. subst (λ (z : ℕ). Line z u xs q) (sym size₂) (k.target_lines q a b);
          operands = subst (λ (z : ℕ). Operands z u ops) (sym size₂) k.operands;
        },
        let f = k.few in let s = x.small in omega arith,
      )

      pub count_law : {r : ℕ} → r ≡ c + length (appended ops (target_jobs (named ws₂) xs a e)) → r ≡ length (appended ops (all_jobs w xs lo m n a e))
      count_law h =
          h ∙ ap₂ (λ (i : ℕ) (f : ℕ → ℕ). i + length (appended ops (target_jobs f xs a e))) (x.count ∙ ap (λ (l : List Job). length (appended ops l)) jobs_x) (after_chain ws₁ ws₂ (after_x ws₁ x.names) y.names) ∙ sym total

  -- ---- done

  module _ (room : u + length (appended ops (all_jobs w xs lo m n a e)) ≤ length ops) where
    pub pass_ask : AskX u lo m ws xs ops w
    pass_ask = record {
      lines = x_line;
      operands = x_ops;
      words = x_words;
      fits = k.x_fits;
      wrote_ok = x_wrote;
      room = let t = total in let j = ap (λ (l : List Job). length (appended ops l)) jobs_x in omega arith;
    }

    module _ (ws₁ ys ops₁ : List ℕ) {o : ℕ} (x : PassedX u lo m ws ws₁ xs ys ops ops₁ w o) where
      long₁ : length ws₁ ≡ R
      long₁ = x.names_size ∙ ws_long

      -- the records outside x are as they were
      untouched : (q i : ℕ) → (lo ≤ q → lo + m ≤ q) → i < 16 → get_or ys (16 * q + i) 0 ≡ get_or xs (16 * q + i) 0
      untouched q i h l = x.run.others q i (outside w lo m q h) l

      rest_word : (p i : ℕ) → m ≤ p → p < n → i < 16 → get_or ys (16 * get_or w (10 * p) 0 + i) 0 ≡ get_or xs (16 * get_or w (10 * p) 0 + i) 0
      rest_word p i g h l = untouched (get_or w (10 * p) 0) i (k.rest_apart p g h) l

      target_word : (q i : ℕ) → a ≤ q → q < e → i < 16 → get_or ys (16 * q + i) 0 ≡ get_or xs (16 * q + i) 0
      target_word q i g h l = untouched q i (k.target_apart q g h) l

      pub rest_ask : AskRest u m n ws₁ ys w
      rest_ask = record { order = k.chain; words = k.words; lines = λ p g h. line_still ys x.run.size (k.rest_lines p g h) long₁ (λ i l. rest_word p i g h l) }

      target_inst : (q : ℕ) → a ≤ q → q < e → inst ys q ≡ inst xs q
      target_inst q g h = still ys x.run.size (k.target_lines q g h) long₁ (λ i l. target_word q i g h l)

      run_x : Run u (gone_places w lo m) (gone_jobs (λ r. r) w xs lo m) xs ys ops ops₁ o
      run_x = subst (λ (l : List Job). Run u (gone_places w lo m) l xs ys ops ops₁ o) jobs_x x.run

      module _ (ws₂ : List ℕ) (y : PassedRest m (n - m) ws₁ ws₂ ys w) where
        long₂ : length ws₂ ≡ R
        long₂ = y.names_size ∙ long₁

        names_are : named ws₂ ≡ all_rd w xs lo m n
        names_are = after_chain ws₁ ws₂ (after_x ws₁ x.names) (λ z. y.names z ∙ rest_same (named ws₁) w xs ys m (n - m) (λ i l. still ys x.run.size (k.rest_lines (m + i) (omega arith) (omega arith)) long₁ (λ j h. rest_word (m + i) j (omega arith) (omega arith) h)) z)

        jobs_are : target_jobs (named ws₂) ys a e ≡ target_jobs (all_rd w xs lo m n) xs a e
        jobs_are = ap (λ (f : ℕ → ℕ). target_jobs f ys a e) names_are ∙ target_same (all_rd w xs lo m n) xs ys a e target_inst

        lists : Lists u (target_jobs (all_rd w xs lo m n) xs a e)
        lists = own_lists u xs (e - a) a (all_rd w xs lo m n) (λ q g h.
            let l = (k.target_lines q g (omega arith)).list_ok in
            let b = word_is xs q 7 (omega arith) in
            let c = word_is xs q 8 (omega arith) in
            omega arith)

        pub own_ask : AskOwn u o a e ws₂ ys ops₁
        own_ask =
            let c = run_x.count in
            let s = x.run.ops_size in
            record {
              order = k.order;
              fits = let f = k.target_fits in let z = x.run.size in omega arith;
              lines = λ q g h. line_still ys x.run.size (k.target_lines q g h) long₂ (λ i l. target_word q i g h l);
              operands = operands_still {o = u} k.operands long₂ (omega arith) s x.run.ops_front;
              used = omega arith;
              room =
                  let t = total in
                  let j : length (appended ops₁ (target_jobs (named ws₂) ys a e)) ≡ length (appended ops (target_jobs (all_rd w xs lo m n) xs a e)) =
                  ap (λ (l : List Job). length (appended ops₁ l)) jobs_are ∙ ap length (appended_same u ops ops₁ x.run.ops_front (target_jobs (all_rd w xs lo m n) xs a e) lists) in
                  omega arith;
            }

        pub rename_law : {zs ops₂ : List ℕ} {r : ℕ} → Run o (range a (e - a)) (target_jobs (named ws₂) ys a e) ys zs ops₁ ops₂ r → Run u (all_places w lo m a e) (all_jobs w xs lo m n a e) xs zs ops ops₂ r
        rename_law {zs} {ops₂} {r} h =
            run_append run_x (subst (λ (l : List Job). Run o (range a (e - a)) l ys zs ops₁ ops₂ r) jobs_are h)
            (λ q i. not_in_mem q (range a (e - a)) (λ j.
            let b = range_in q a (e - a) j in
            let lo_q = b.0 in
            let hi_q = b.1 in
            clash i (outside w lo m q (k.target_apart q lo_q (omega arith)))))
            lists
