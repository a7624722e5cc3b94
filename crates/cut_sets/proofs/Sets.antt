-- Laws of sets as binary numbers: the worth of a set by its highest bit, of what it leaves out, by its high and its low eight bits, and by its lowest bit. Assumes nothing.
use Rattle.base.specs.Basics.{◌≡◌, refl, ap, ◌∙◌, cond, List, [], ◌∷◌, ◌++◌, ℕ, suc, ◌+◌, ◌*◌, ◌-◌, ◌^◌, ◌/◌, ◌%◌, ◌≤◌, ◌<◌, one-le-pow, two-pow-succ}
use Rattle.base.specs.Basics.{arith, eqb, length, length-append, le-leb, lt-leb, eq-eqb, ne_eqb}
use lib.Pow.{pow-add, pow_mono}
use Rattle.base.specs.Sums.{sum}
use Rattle.base.proofs.Linear.{by_order}
use Rattle.cut_sets.specs.Sets.{marks, marked_worth, worth_of_set, last_worth}

pub pow_more : (n : ℕ) → 2 ^ suc n ≡ 2 ^ n + 2 ^ n
pow_more n = two-pow-succ n

pub pow-one : (n : ℕ) → 1 ≤ 2 ^ n
pow-one n = one-le-pow n 2 (omega arith)

-- ---- by the highest bit

pub worth_high : (w : ℕ) (ws : List ℕ) (m : ℕ) → 2 ^ length ws ≤ m → worth_of_set (w ∷ ws) m ≡ w + worth_of_set ws (m - 2 ^ length ws)
unfolding worth_of_set marks marked_worth
worth_high w ws m h = rw (le-leb (2 ^ length ws) m h)

pub worth_low : (w : ℕ) (ws : List ℕ) (m : ℕ) → m < 2 ^ length ws → worth_of_set (w ∷ ws) m ≡ worth_of_set ws m
unfolding worth_of_set marks marked_worth
worth_low w ws m h = rw (lt-leb (2 ^ length ws) m h) (omega arith)

pub worth_of_none : (m : ℕ) → worth_of_set [] m ≡ 0
unfolding worth_of_set marks marked_worth
worth_of_none m = refl

-- the empty set
pub worth_empty : (ws : List ℕ) → worth_of_set ws 0 ≡ 0
worth_empty [] = worth_of_none 0
worth_empty (w ∷ ws) = worth_low w ws 0 (pow-one (length ws)) ∙ worth_empty ws

-- no set is worth more than all trades
pub worth_most : (ws : List ℕ) (m : ℕ) → worth_of_set ws m ≤ sum (λ w. w) ws
unfolding sum
worth_most [] m = omega (arith, worth_of_none m)
worth_most (w ∷ ws) m =
    by_order m (2 ^ length ws) (λ h. omega (arith, worth_low w ws m h, worth_most ws m))
    (λ h. omega (arith, worth_high w ws m h, worth_most ws (m - 2 ^ length ws)))

-- a set and the one that it leaves out: counting down from all trades, the sets left out count up
pub worth_rest : (ws : List ℕ) (k : ℕ) → k < 2 ^ length ws → worth_of_set ws (2 ^ length ws - 1 - k) + worth_of_set ws k ≡ sum (λ w. w) ws
unfolding sum
worth_rest [] k h = omega (arith, worth_of_none k, worth_of_none (2 ^ 0 - 1 - k))
worth_rest (w ∷ ws) k h =
    let p = 2 ^ length ws in
    let m = 2 ^ suc (length ws) - 1 - k in
    let two = pow_more (length ws) in
    by_order k p
    (λ l.
    let same : m - p ≡ p - 1 - k = omega arith in
    omega (arith, worth_low w ws k l, worth_high w ws m (omega arith), ap (worth_of_set ws) same, worth_rest ws k l))
    (λ l.
    let same : p - 1 - (k - p) ≡ m = omega arith in
    omega (arith, worth_high w ws k l, worth_low w ws m (omega arith), ap (worth_of_set ws) same, worth_rest ws (k - p) (omega arith)))

-- all trades
pub worth_all : (ws : List ℕ) → worth_of_set ws (2 ^ length ws - 1) ≡ sum (λ w. w) ws
worth_all ws =
    let same : 2 ^ length ws - 1 - 0 ≡ 2 ^ length ws - 1 = omega arith in
    omega (arith, worth_rest ws 0 (pow-one (length ws)), worth_empty ws, ap (worth_of_set ws) same)

-- ---- by the high and the low eight bits

-- nine trades and more have a multiple of 256 sets
pow_blocks : (n : ℕ) → 8 ≤ n → 2 ^ n ≡ 2 ^ (n - 8) * 256
pow_blocks n h = ap (λ (i : ℕ). 2 ^ i) (the_sum) ∙ pow-add 2 (n - 8) 8
  where
    the_sum : n ≡ n - 8 + 8
    the_sum = omega arith

pub worth_split : (ws : List ℕ) (h l : ℕ) → l < 256 → h * 256 + l < 2 ^ length ws → worth_of_set ws (h * 256 + l) ≡ worth_of_set ws (h * 256) + worth_of_set ws l
worth_split [] h l k b = omega (arith, worth_of_none (h * 256 + l), worth_of_none (h * 256), worth_of_none l)
worth_split (w ∷ ws) h l k b =
    let n = length ws in
    let p = 2 ^ n in
    let two = pow_more n in
    by_order n 8
    (λ few.
    let most : n ≤ 7 = omega arith in
    let small : 2 ^ n ≤ 2 ^ 7 = pow_mono most in
    let none : h * 256 ≡ 0 = omega arith in
    let last : h * 256 + l ≡ l = omega arith in
    omega (arith, ap (worth_of_set (w ∷ ws)) none, ap (worth_of_set (w ∷ ws)) last, worth_empty (w ∷ ws)))
    (λ many.
    let blocks = pow_blocks n many in
    let q = 2 ^ (n - 8) in
    let one = pow-one (n - 8) in
    by_order (h * 256 + l) p
    (λ low. omega (arith, worth_low w ws (h * 256 + l) low, worth_low w ws (h * 256) (omega arith), worth_low w ws l (omega arith), worth_split ws h l k low))
    (λ high.
    let first : h * 256 - p ≡ (h - q) * 256 = omega arith in
    let both : h * 256 + l - p ≡ (h - q) * 256 + l = omega arith in
    omega (
      arith,
      worth_high w ws (h * 256 + l) high,
      worth_high w ws (h * 256) (omega arith),
      worth_low w ws l (omega arith),
      ap (worth_of_set ws) first,
      ap (worth_of_set ws) both,
      worth_split ws (h - q) l k (omega arith),
    )))

-- ---- by the lowest bit

last_even : (m w : ℕ) → m % 2 ≡ 0 → last_worth m w ≡ 0
unfolding last_worth
last_even m w e = rw (eq-eqb (m % 2) 0 e)

last_odd : (m w : ℕ) → 0 < m % 2 → last_worth m w ≡ w
unfolding last_worth
last_odd m w h = rw (ne_eqb (m % 2) 0 (λ e. omega arith))

last_same : (a b w : ℕ) → a % 2 ≡ b % 2 → last_worth a w ≡ last_worth b w
unfolding last_worth
last_same a b w e = ap (λ (i : ℕ). cond (eqb i 0) 0 w) e

pub worth_snoc : (ws : List ℕ) (w m : ℕ) → m < 2 ^ suc (length ws) → worth_of_set (ws ++ (w ∷ [])) m ≡ worth_of_set ws (m / 2) + last_worth m w
worth_snoc [] w m h =
    by_order m 1 (λ l. omega (arith, worth_low w [] m l, worth_of_none m, worth_of_none (m / 2), last_even m w (omega arith)))
    (λ l. omega (arith, worth_high w [] m l, worth_of_none (m - 1), worth_of_none (m / 2), last_odd m w (omega arith)))
worth_snoc (v ∷ ws) w m h =
    let p = 2 ^ length ws in
    let two = pow_more (length ws) in
    let four = pow_more (suc (length ws)) in
    let more : 2 ^ length (ws ++ (w ∷ [])) ≡ 2 ^ suc (length ws) = ap (λ (i : ℕ). 2 ^ i) (longer ws w) in
    by_order m (2 ^ suc (length ws))
    (λ l. omega (arith, worth_low v (ws ++ (w ∷ [])) m (omega arith), worth_snoc ws w m l, worth_low v ws (m / 2) (omega arith)))
    (λ l.
    let all = 2 ^ length (ws ++ (w ∷ [])) in
    let half : (m - all) / 2 ≡ m / 2 - p = omega arith in
    let parity : (m - all) % 2 ≡ m % 2 = omega arith in
    omega (
      arith,
      worth_high v (ws ++ (w ∷ [])) m (omega arith),
      worth_snoc ws w (m - all) (omega arith),
      worth_high v ws (m / 2) (omega arith),
      ap (worth_of_set ws) half,
      last_same (m - all) m w parity,
    ))
  where
    longer : (xs : List ℕ) (x : ℕ) → length (xs ++ (x ∷ [])) ≡ suc (length xs)
    longer xs x = omega (arith, length-append xs (x ∷ []))
