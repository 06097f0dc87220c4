-- Laws of `Put`: writes one behind the other are one write. Assumes nothing.
use mathlib.Core.Path.{◌≡◌, refl, sym, ap, ◌∙◌}
use mathlib.Core.List.{List, [], ◌∷◌, ◌++◌, append_assoc, append-nil}
use Rattle.std.specs.Borrow.{Bor}
use Prim.Native.Nat.{ℕ, zero, suc, ◌+◌, ◌*◌, ◌≤◌, ◌<◌}
use native.Mathlib.Nat.{add-zero}
use native.Mathlib.Numerals.{add-one}
use native.Mathlib.Omega.{arith}
use lib.ListN.{length, length-append, get_or, take}
use lib.Seq.{sets}
use Rattle.words.specs.Bytes.{bytes_of}
use Rattle.words.proofs.Copying.{sets_append}
use Rattle.words.proofs.Encoding.{bytes_append, length_bytes}
use Rattle.layout.specs.Layout.{Put, joined}

pub put_none : (b : List ℕ) (at : ℕ) → Put b at [] b at
put_none b at = record { made = refl; next = sym (add-zero at) }

pub put_then : {b m a xs ys : List ℕ} {at p r : ℕ} → Put b at xs m p → Put m p ys a r → Put b at (xs ++ ys) a r
put_then {b} {m} {a} {xs} {ys} {at} {p} {r} h k =
    record {
      made = k.made ∙ ap (λ (q : ℕ). sets m q ys) h.next ∙ ap (λ (l : List ℕ). sets l (at + length xs) ys) h.made ∙ sym (sets_append b at xs ys);
      next = omega (arith, length-append xs ys, h.next, k.next);
    }

-- ---- words

pub words_put : (b a ws : List ℕ) (at : ℕ) → a ≡ sets b at (bytes_of ws) → Put b at (bytes_of ws) a (at + 4 * length ws)
words_put b a ws at e = record { made = e; next = ap (λ (k : ℕ). at + k) (sym (length_bytes ws)) }

pub words_next : {b m : List ℕ} {at p : ℕ} (ws : List ℕ) → Put b at (bytes_of ws) m p → p ≡ at + 4 * length ws
words_next {at = at} ws h = h.next ∙ ap (λ (k : ℕ). at + k) (length_bytes ws)

pub words_then : {b m a : List ℕ} {at p r : ℕ} (xs ys : List ℕ) → Put b at (bytes_of xs) m p → Put m p (bytes_of ys) a r → Put b at (bytes_of (xs ++ ys)) a r
words_then xs ys h k = rw (bytes_append xs ys) (put_then h k)

-- ---- slices, one behind the other

pub joined_more : (ss : List (Bor (List ℕ))) (i : ℕ) (d : Bor (List ℕ)) → i < length ss → joined (take (suc i) ss) ≡ joined (take i ss) ++ (get_or ss i d).now
joined_more [] i d h = absurd (omega arith)
joined_more (s ∷ ss) zero d h = append-nil s.now
joined_more (s ∷ ss) (suc i) d h = ap (λ (l : List ℕ). s.now ++ l) (joined_more ss i d (omega arith)) ∙ sym (append_assoc s.now (joined (take i ss)) (get_or ss i d).now)

pub joined_fits : (ss : List (Bor (List ℕ))) (i : ℕ) → length (joined (take i ss)) ≤ length (joined ss)
joined_fits [] zero = omega arith
joined_fits [] (suc i) = omega arith
joined_fits (s ∷ ss) zero = omega arith
joined_fits (s ∷ ss) (suc i) = omega (arith, joined_fits ss i, length-append s.now (joined ss), length-append s.now (joined (take i ss)))

-- where slice i ends
pub joined_next : {b m : List ℕ} {p : ℕ} (ss : List (Bor (List ℕ))) (i : ℕ) (d : Bor (List ℕ)) → i < length ss → Put b 0 (bytes_of (joined (take i ss))) m p
    → p + 4 * length (get_or ss i d).now ≤ 4 * length (joined ss)
joined_next ss i d h k =
    omega (arith, words_next (joined (take i ss)) k, joined_fits ss (suc i), ap length (joined_more ss i d h), length-append (joined (take i ss)) (get_or ss i d).now)

-- slice i behind those before
pub joined_then : {b m a : List ℕ} {p : ℕ} (ss : List (Bor (List ℕ))) (i : ℕ) (d : Bor (List ℕ)) → i < length ss → Put b 0 (bytes_of (joined (take i ss))) m p
    → a ≡ sets m p (bytes_of (get_or ss i d).now) → Put b 0 (bytes_of (joined (take (i + 1) ss))) a (p + 4 * length (get_or ss i d).now)
joined_then ss i d h k e = rw (add-one i, joined_more ss i d h) (words_then (joined (take i ss)) (get_or ss i d).now k (words_put _ _ (get_or ss i d).now _ e))

pub in_order : (ks bs rs ls vs ts os ps gs ys : List ℕ)
    → ks ++ (bs ++ (rs ++ (ls ++ (vs ++ (ts ++ (os ++ (ps ++ (gs ++ (ys ++ []))))))))) ≡ ks ++ bs ++ rs ++ ls ++ vs ++ ts ++ os ++ ps ++ gs ++ ys
in_order ks bs rs ls vs ts os ps gs ys = simp (append_assoc, append-nil)
