-- The chain that the search finds from a block: its blocks, each the sole successor of the one before and with one caller, none
-- twice, and its end in a CondBr; and its places. Assumes nothing.
use Rattle.std.proofs.lemmas.Option.{none-some, same_Some}
use Rattle.std.specs.Prelude.{Option, None, Some}
use mathlib.Core.Path.{◌≡◌, refl, sym, ap, ap₂, ◌∙◌, subst}
use mathlib.Core.Logic.{inl, inr}
use mathlib.Core.Bool.{Bool, true, false, not, ◌&&◌}
use mathlib.Core.List.{List, [], ◌∷◌, ◌++◌, append_assoc, append-nil, head-eq_of_cons-eq, tail-eq_of_cons-eq, nil≢cons}
use Prim.Native.Nat.{ℕ, zero, suc, ◌+◌, ◌-◌, ◌≤◌, ◌<◌, zero-le}
use native.Mathlib.Omega.{arith}
use lib.Dec.{eqb, eqb→eq}
use lib.ListN.{get_or, length, take, length-append, get_or-append}
use lib.Seq.{get_or-take, length-take-le}
use Rattle.words.specs.Lists.{In, mem}
use Rattle.words.proofs.Bools.{left, right, true_T, T_false}
use Rattle.words.proofs.Members.{in_left, mem-not_in}
use Rattle.words.proofs.Lists.{length_range, get_or-range, nil_snoc}
use Rattle.model.specs.Picture.{Picture, starts, size, places, End, goes, parts, cases, stops, ending, end_succs, succs, callers}
use Rattle.model.specs.Move.{Chain, chain, chain_from, chain_places}

-- the last of a block and those behind it
abbrev pub last_of_chain : ℕ → List ℕ → ℕ
last_of_chain b [] = b
last_of_chain b (c ∷ cs) = last_of_chain c cs

module _ (P : Picture) where
  -- each of cs, behind the blocks bs of which cur is the last: the Br before it goes there, it has one caller, and it is new
  abbrev pub Links : List ℕ → ℕ → List ℕ → Type 0
  Links bs cur [] = Unit {0}
  Links bs cur (c ∷ cs) = (ending P cur ≡ goes c) × (length (callers P c) ≡ 1) × (In c bs → ⊥) × Links (bs ++ c ∷ []) c cs

  -- what the search from cur, behind bs, has found
  pub record Found (bs : List ℕ) (cur : ℕ) (c : Chain) : Type 0 where
    pub rest : List ℕ
    pub blocks_are : c.blocks ≡ bs ++ rest
    pub last_is : c.last ≡ last_of_chain cur rest
    pub ends_in : ending P (last_of_chain cur rest) ≡ parts c.t c.f
    pub links : Links bs cur rest

  stop : (bs : List ℕ) (cur t f : ℕ) (c : Chain) → ending P cur ≡ parts t f → ◌≡◌ {A = Option Chain} (Some (record { blocks = bs; last = cur; t = t; f = f })) (Some c) → Found bs cur c
  stop bs cur t f c e q =
      let g = same_Some (record { blocks = bs; last = cur; t = t; f = f }) c q in
      record {
        rest = [];
        blocks_are = ap (λ (z : Chain). z.blocks) (sym g) ∙ sym (append-nil bs);
        last_is = ap (λ (z : Chain). z.last) (sym g);
        ends_in = e ∙ ap₂ parts (ap (λ (z : Chain). z.t) g) (ap (λ (z : Chain). z.f) g);
        links = tt;
      }

  found : (k : ℕ) (bs : List ℕ) (cur : ℕ) (c : Chain) → chain_from P k bs cur ≡ Some c → Found bs cur c
  found zero bs cur c q = go (ending P cur) refl q
    where
      go : (e : End) → ending P cur ≡ e → ◌≡◌ {A = Option Chain} (elim e as (λ z. Option Chain) [ goes to ↦ None | parts t f ↦ Some (record { blocks = bs; last = cur; t = t; f = f }) | cases c ↦ None | stops ↦ None ]) (Some c) → Found bs cur c
      go (goes to) e q = absurd (none-some c q)
      go (parts t f) e q = stop bs cur t f c e q
      go (cases n) e q = absurd (none-some c q)
      go stops e q = absurd (none-some c q)
  found (suc k) bs cur c q = go (λ to. found k (bs ++ to ∷ []) to c) (ending P cur) refl q
    where
      on : (to : ℕ) → (chain_from P k (bs ++ to ∷ []) to ≡ Some c → Found (bs ++ to ∷ []) to c) → ending P cur ≡ goes to → (b : Bool) → (eqb (length (callers P to)) 1 && not (mem to bs)) ≡ b
          → ◌≡◌ {A = Option Chain} (elim b as (λ z. Option Chain) [ true ↦ chain_from P k (bs ++ to ∷ []) to | false ↦ None ]) (Some c) → Found bs cur c
      on to rec e true t q =
          let r = rec q in
          let u = true_T (eqb (length (callers P to)) 1 && not (mem to bs)) t in
          record {
            rest = to ∷ r.rest;
            blocks_are = r.blocks_are ∙ append_assoc bs (to ∷ []) r.rest;
            last_is = r.last_is;
            ends_in = r.ends_in;
            links = (
              e,
              eqb→eq (length (callers P to)) 1 (left (eqb (length (callers P to)) 1) (not (mem to bs)) u),
              mem-not_in to bs (T_false (mem to bs) (right (eqb (length (callers P to)) 1) (not (mem to bs)) u)),
              r.links,
            );
          }
      on to rec e false t q = absurd (none-some c q)

      go : ((to : ℕ) → chain_from P k (bs ++ to ∷ []) to ≡ Some c → Found (bs ++ to ∷ []) to c) → (e : End) → ending P cur ≡ e
          → ◌≡◌ {A = Option Chain} (elim e as (λ z. Option Chain) [
            | goes to ↦ elim (eqb (length (callers P to)) 1 && not (mem to bs)) as (λ z. Option Chain) [ true ↦ chain_from P k (bs ++ to ∷ []) to | false ↦ None ]
            | parts t f ↦ Some (record { blocks = bs; last = cur; t = t; f = f })
            | cases c ↦ None
            | stops ↦ None
          ]) (Some c) → Found bs cur c
      go rec (goes to) e q = on to (rec to) e (eqb (length (callers P to)) 1 && not (mem to bs)) refl q
      go rec (parts t f) e q = stop bs cur t f c e q
      go rec (cases n) e q = absurd (none-some c q)
      go rec stops e q = absurd (none-some c q)

  -- THE CHAIN FROM x
  pub chain_found : (x : ℕ) (c : Chain) → chain P x ≡ Some c → Found (x ∷ []) x c
  chain_found x c q = found 5 (x ∷ []) x c q

  -- ---- what follows

  -- a block that is behind no Br is not behind itself
  pub links_apart : (bs : List ℕ) (cur y : ℕ) (cs : List ℕ) → Links bs cur cs → In y bs → In y cs → ⊥
  links_apart bs cur y [] l i j = j
  links_apart bs cur y (c ∷ cs) l i (inl e) = l.2 (subst (λ z. In z bs) e i)
  links_apart bs cur y (c ∷ cs) l i (inr j) = links_apart (bs ++ c ∷ []) c y cs l.3 (in_left y bs (c ∷ []) i) j

  -- every block but the last ends in a Br to the next
  pub links_inner : (bs : List ℕ) (cur : ℕ) (cs : List ℕ) → Links bs cur cs → (pre : List ℕ) (b d : ℕ) (post : List ℕ) → cur ∷ cs ≡ pre ++ b ∷ d ∷ post → ending P b ≡ goes d
  links_inner bs cur [] l [] b d post e = absurd (nil≢cons (tail-eq_of_cons-eq e))
  links_inner bs cur [] l (y ∷ pre) b d post e = nil_snoc pre b (d ∷ post) (tail-eq_of_cons-eq e)
  links_inner bs cur (c ∷ cs) l [] b d post e = ap (ending P) (sym (head-eq_of_cons-eq e)) ∙ l.0 ∙ ap goes (head-eq_of_cons-eq (tail-eq_of_cons-eq e))
  links_inner bs cur (c ∷ cs) l (y ∷ pre) b d post e = links_inner (bs ++ c ∷ []) c cs l.3 pre b d post (tail-eq_of_cons-eq e)

  -- the chain's end goes to t and f
  pub ends_succs : (x : ℕ) (c : Chain) (r : Found (x ∷ []) x c) → succs P (last_of_chain x r.rest) ≡ c.t ∷ c.f ∷ []
  ends_succs x c r = ap (end_succs P) r.ends_in

  -- ---- its places: first those of x but for the Br

  pub lead : (x : ℕ) (cs : List ℕ) (p : ℕ) → p < size P x - 1 → (p < length (chain_places P (x ∷ cs))) × (get_or (chain_places P (x ∷ cs)) p 0 ≡ starts P x + p)
  lead x [] p h = (subst (λ (n : ℕ). p < n) (sym (length_range (starts P x) (size P x))) (omega arith), get_or-range (starts P x) (size P x) p (omega arith))
  lead x (c ∷ cs) p h =
      let len : length (take (size P x - 1) (places P x)) ≡ size P x - 1 = length-take-le (size P x - 1) (places P x) (let e = length_range (starts P x) (size P x) in omega arith) in
      let all = length-append (take (size P x - 1) (places P x)) (chain_places P (c ∷ cs)) in (
        omega arith,
        get_or-append (take (size P x - 1) (places P x)) (chain_places P (c ∷ cs)) 0 p (omega arith)
            ∙ get_or-take (size P x - 1) (places P x) p 0 h ∙ get_or-range (starts P x) (size P x) p (omega arith),
      )

  pub lead_length : (x : ℕ) (cs : List ℕ) → size P x - 1 ≤ length (chain_places P (x ∷ cs))
  lead_length x cs = go (size P x - 1) (λ p h. (lead x cs p h).0)
    where
      go : (n : ℕ) → ((p : ℕ) → p < n → p < length (chain_places P (x ∷ cs))) → n ≤ length (chain_places P (x ∷ cs))
      go zero h = zero-le
      go (suc n) h = h n (omega arith)
