-- Bytes with 0 behind them, and runs of zero bytes: stated over the room, so that no proof looks at its zeros one by one. Assumes nothing.
use Rattle.base.specs.Basics.{◌≡◌, refl, sym, ap, ap₂, ◌∙◌, List, [], ◌∷◌, ◌++◌, append_assoc, ℕ, zero, suc, ◌+◌, ◌-◌, ◌≤◌, arith, T, eqb, eqb→eq, length, take}
use Rattle.base.specs.Basics.{drop, replicate, length-append, length-drop, length-replicate, replicate-append-replicate, take-append-drop, sets, drop_at}
use Rattle.base.specs.Basics.{length-take-le, take_at}
use Rattle.base.proofs.Tests.{and_l, and_r}
use Rattle.base.specs.Lists.{all}
use Rattle.fields.proofs.Sets.{sets_left, sets-replicate, sets_right, sets_whole}
use Rattle.log_format.specs.{Fits.zeros, Log.padded}

-- ---- runs of zero bytes

pub zeros-replicate : (n : ℕ) → T (zeros (replicate n 0))
unfolding zeros all
zeros-replicate zero = tt
zeros-replicate (suc n) = zeros-replicate n

pub zeros_are : (c : List ℕ) → T (zeros c) → c ≡ replicate (length c) 0
unfolding zeros all
zeros_are [] h = refl
zeros_are (b ∷ c) h =
    ap₂ (λ (x : ℕ) (xs : List ℕ). x ∷ xs) (eqb→eq b 0 (and_l (eqb b 0) (all (λ (x : ℕ). eqb x 0) c) h))
    (zeros_are c (and_r (eqb b 0) (all (λ (x : ℕ). eqb x 0) c) h))

pub take-replicate : (k n : ℕ) → k ≤ n → take {A = ℕ} k (replicate n 0) ≡ replicate k 0
take-replicate zero n h = refl
take-replicate (suc k) zero h = absurd (omega arith)
take-replicate (suc k) (suc n) h = ap (λ (r : List ℕ). 0 ∷ r) (take-replicate k n (omega arith))

-- ---- padded bytes

pub length-padded : (room : ℕ) (x : List ℕ) → length x ≤ room → length (padded room x) ≡ room
unfolding padded
length-padded room x h = rw (length-append, length-replicate) (omega arith)

-- the bytes, and the zeros behind them
pub take-padded : (room n : ℕ) (x : List ℕ) → length x ≡ n → take n (padded room x) ≡ x
unfolding padded
take-padded room n x e = take_at x (replicate (room - length x) 0) n e

pub drop-padded : (room n : ℕ) (x : List ℕ) → length x ≡ n → drop n (padded room x) ≡ replicate (room - n) 0
unfolding padded
drop-padded room n x e = drop_at x (replicate (room - length x) 0) n e ∙ ap (λ (k : ℕ). replicate (room - k) 0) e

-- bytes whose rest is 0 are their beginning, padded
pub padded_of : (n : ℕ) (x : List ℕ) → n ≤ length x → T (zeros (drop n x)) → x ≡ padded (length x) (take n x)
unfolding padded
padded_of n x h z =
    let e : length (take n x) ≡ n = length-take-le n x h in
    sym (take-append-drop n x)
    ∙ ap (λ (q : List ℕ). take n x ++ q) (zeros_are (drop n x) z ∙ ap (λ (k : ℕ). replicate k 0) (length-drop n x ∙ ap (λ (k : ℕ). length x - k) (sym e)))

-- ---- something written behind the bytes

-- behind the bytes: one cut, or one entry
pub sets-padded : (room : ℕ) (x w : List ℕ) → length x + length w ≤ room → sets (padded room x) (length x) w ≡ padded room (x ++ w)
unfolding padded
sets-padded room x w h =
    let n : room - length x - length w ≡ room - length (x ++ w) = rw length-append (omega arith) in
    let e : length x ≡ length x + 0 = omega arith in
    ap (λ (k : ℕ). sets (x ++ replicate (room - length x) 0) k w) e
    ∙ sets_right w x (replicate (room - length x) 0) 0
    ∙ ap (λ (q : List ℕ). x ++ q) (sets-replicate w (room - length x) 0 (omega arith) ∙ ap (λ (k : ℕ). w ++ replicate k 0) n)
    ∙ sym (append_assoc x w (replicate (room - length (x ++ w)) 0))

-- and zeros over the last of them take it back
pub sets_zeros : (room : ℕ) (x w : List ℕ) → length x + length w ≤ room → sets (padded room (x ++ w)) (length x) (replicate (length w) 0) ≡ padded room x
unfolding padded
sets_zeros room x w h =
    let z : List ℕ = replicate (length w) 0 in
    let rest : List ℕ = replicate (room - length (x ++ w)) 0 in
    let n : length w + (room - length (x ++ w)) ≡ room - length x = rw length-append (omega arith) in
    let e : length x ≡ length x + 0 = omega arith in
    let f : 0 + length z ≤ length w = rw length-replicate (omega arith) in
    ap (λ (q : List ℕ). sets q (length x) z) (append_assoc x w rest)
    ∙ ap (λ (k : ℕ). sets (x ++ (w ++ rest)) k z) e
    ∙ sets_right z x (w ++ rest) 0
    ∙ ap (λ (q : List ℕ). x ++ q) (sets_left z w rest 0 f ∙ ap (λ (q : List ℕ). q ++ rest) (sets_whole z w (sym (length-replicate (length w) 0))) ∙ replicate-append-replicate (length w) (room - length (x ++ w)) 0 ∙ ap (λ (k : ℕ). replicate k 0) n)
