-- Floats bounded by fractions: what is at most b / q in size, or at least b / q, and how each operation carries such bounds. Assumes nothing.
use mathlib.Core.Path.{◌≡◌, refl, sym, ap, ◌∙◌, subst}
use mathlib.Core.Bool.{Bool, true, false, true≢false}
use Prim.Native.Nat.{ℕ, zero, suc, ◌+◌, ◌-◌, ◌*◌, ◌^◌, ◌≤◌, ◌<◌}
use native.Mathlib.Nat.{le_trans, le_of_eq, lt_irrefl, lt_of_lt_of_le, zero-mul, mul_assoc, mul-mul-mul_comm, add-mul}
use native.Mathlib.Nat.{mul-le-mul, mul-le-mul_right, le_of_mul-le-mul_right, mul-pos, mul-lt-mul_of_pos_right, mul-one, le_of_lt}
use native.Mathlib.Omega.{arith}
use lib.Dec.{T, eqb-suc-zero}
use lib.IntN.{ℤ}
use lib.Pow.{pow-add, pow_pos, pow_mono}
use lib.Ieee as Ieee
use lib.Ieee.{Float, nan, inf, fin, binary32, up, down, round, sum, add, sub, mul, div, neg, lt, le, is_nan, fits, of_bits}
use lib.Ieee.Bits.{is_true}
use lib.Ieee.Fits.{up_pos, down_pos}
use lib.Ieee.Exact.{HasValue, round_exact}
use lib.Ieee.Order.{round_mono}
use lib.Ieee.Positive.{through}
use lib.Ieee.Digits.{back}
use borrow.Author.Tests.{ltb-true, ltb-false, lt-ltb}
use Rattle.arithmetic.specs.Constants.{◌+ᶠ◌, ◌-ᶠ◌, ◌·ᶠ◌, ◌/ᶠ◌, n0, n1}
use Rattle.arithmetic.specs.Order.{finite}
use Rattle.arithmetic.proofs.Bounds.{never, never', AtLeastZero, an_inf, plain, minus_zero_lem}
use Rattle.arithmetic.proofs.Sums.{above, under, cross_of, round_neg, round_plain, Rounds, more, less, sum_rounds}
use Rattle.arithmetic.proofs.Rounding.{not_too_large}

-- finite, and at most b / q in size
abbrev pub Within : ℕ → ℕ → Float → Type 0
Within b q nan = ⊥
Within b q (inf s) = ⊥
Within b q (fin s m e) = m * up e * q ≤ b * down e

-- at least b / q, an infinity included, with no sign
abbrev pub AtLeast : ℕ → ℕ → Float → Type 0
AtLeast b q nan = ⊥
AtLeast b q (inf true) = ⊥
AtLeast b q (inf false) = Unit {0}
AtLeast b q (fin true m e) = ⊥
AtLeast b q (fin false m e) = b * down e ≤ m * up e * q

pub within_finite : (b q : ℕ) (x : Float) → Within b q x → finite x ≡ true
unfolding finite
within_finite b q nan h = absurd h
within_finite b q (inf s) h = absurd h
within_finite b q (fin s m e) h = refl

within_neg : (b q : ℕ) (x : Float) → Within b q x → Within b q (neg x)
unfolding neg
within_neg b q nan h = h
within_neg b q (inf s) h = h
within_neg b q (fin s m e) h = h

-- a / p is at most b / q
pub weaker : (a p b q : ℕ) (x : Float) → 0 < p → a * q ≤ b * p → Within a p x → Within b q x
weaker a p b q nan P l h = h
weaker a p b q (inf s) P l h = h
weaker a p b q (fin s m e) P l h = through (m * up e) a b (down e) p q P h l

pub fewer : (a p b q : ℕ) (x : Float) → 0 < p → b * p ≤ a * q → AtLeast a p x → AtLeast b q x
fewer a p b q nan P l h = h
fewer a p b q (inf true) P l h = h
fewer a p b q (inf false) P l h = h
fewer a p b q (fin true m e) P l h = h
fewer a p b q (fin false m e) P l h = through b a (m * up e) q p (down e) P l h

-- what is at least b / q is above 0
pub is_above : (b q : ℕ) (x : Float) → 0 < b → AtLeast b q x → lt n0 x ≡ true
unfolding lt of_bits
is_above b q nan B h = absurd h
is_above b q (inf true) B h = absurd h
is_above b q (inf false) B h = refl
is_above b q (fin true m e) B h = absurd h
is_above b q (fin false m e) B h =
    lt-ltb (0 * down e) (m * up e * 1) (some (m * up e) q (down e) (lt_of_lt_of_le (mul-pos B (down_pos e)) h))
  where
    some : (x q d : ℕ) → 0 < x * q → 0 * d < x * 1
    some zero q d h = absurd (lt_irrefl 0 (lt_of_lt_of_le h (le_of_eq (zero-mul q))))
    some (suc x) q d h = omega arith

pub not_zero : (a b : ℕ) → 0 * b < 0 * a * 1 → ⊥
not_zero a b h = omega arith

-- every finite f32 is at most 2 ^ 128 in size
pub f32_within : (x : Float) → finite x ≡ true → T (fits binary32 x) → Within (2 ^ 128) 1 x
unfolding finite
f32_within nan p f = never p
f32_within (inf s) p f = never p
f32_within (fin s zero e) p f = le_trans (le_of_eq (mul-one (0 * up e) ∙ zero-mul (up e))) (le_of_lt (mul-pos (pow_pos 128) (down_pos e)))
f32_within (fin s (suc m) e) p f = le_trans (le_of_eq (mul-one (suc m * up e))) (le_of_lt (not_too_large s m e f))

-- what is a number and not below 1 is at least 1
pub from_1 : (x : Float) → is_nan x ≡ false → lt x n1 ≡ false → AtLeast 1 1 x
unfolding lt is_nan of_bits
from_1 nan p q = never' p
from_1 (inf true) p q = never' q
from_1 (inf false) p q = tt
from_1 (fin true m e) p q =
    let l = ltb-false 0 (m * up e * 1 + 1 * down e) q in
    absurd (lt_irrefl 0 (lt_of_lt_of_le (down_pos e) (omega (arith, l))))
from_1 (fin false m e) p q = let l = ltb-false (m * up e * 1) (1 * down e) q in omega (arith, l)

-- ---- rounding

-- binary32 holds b / q
abbrev pub Held : ℕ → ℕ → Type 0
Held b q = HasValue (round binary32 false b q) false b q

pub held : (b k : ℕ) → b < 0x1000000 → k ≤ 149 → Held b (2 ^ k)
held b k h l =
    round_exact binary32 false b (2 ^ k) b (149 - k) (pow_pos k) h
    (lt_of_lt_of_le (mul-lt-mul_of_pos_right h (pow_pos (149 - k)))
    (le_trans (le_of_eq (sym (pow-add 2 24 (149 - k)))) (pow_mono {i = 24 + (149 - k)} {j = 277} (omega arith))))
    (ap (λ (x : ℕ). b * x) (ap (λ (x : ℕ). 2 ^ x) (sym (back 149 k l)) ∙ pow-add 2 (149 - k) k) ∙ sym (mul_assoc b (2 ^ (149 - k)) (2 ^ k)))

-- below a number with the value b / q
pub le_within : {x : Float} (y : Float) (b q : ℕ) → AtLeastZero x → HasValue y false b q → T (le x y) → Within b q x
unfolding le
le_within nan b q p v t = absurd v
le_within (inf s) b q p v t = absurd v
le_within (fin true n d) b q p v t = absurd (true≢false v.0)
le_within (fin false n d) b q an_inf v t = absurd t
le_within (fin false n d) b q (minus_zero_lem e) v t = le_trans (le_of_eq (ap (λ (x : ℕ). x * q) (zero-mul (up e)) ∙ zero-mul q)) (omega arith)
le_within (fin false n d) b q (plain m e) v t =
    let h : m * up e * down d + 0 ≤ n * up d * down e + 0 = cross_of false false (m * up e * down d) (n * up d * down e) (is_true _ t) in
    through (m * up e) (n * up d) b (down e) (down d) q (down_pos d) (omega (arith, h)) (le_of_eq v.1)

-- above one
pub le_least : {x : Float} (y : Float) (b q : ℕ) → AtLeastZero x → 0 < b → HasValue y false b q → T (le y x) → AtLeast b q x
unfolding le
le_least nan b q p B v t = absurd v
le_least (inf s) b q p B v t = absurd v
le_least (fin true n d) b q p B v t = absurd (true≢false v.0)
le_least (fin false n d) b q an_inf B v t = tt
le_least (fin false n d) b q (minus_zero_lem e) B v t =
    let h : n * up d * down e + 0 * up e * down d ≤ 0 = cross_of false true (n * up d * down e) (0 * up e * down d) (is_true _ t) in
    let g : n * up d * down e * q ≤ 0 = le_trans (mul-le-mul_right q (omega (arith, h))) (le_of_eq (zero-mul q)) in
    absurd (lt_irrefl 0 (lt_of_lt_of_le (mul-pos (mul-pos B (down_pos d)) (down_pos e)) (omega (arith, g, ap (λ (x : ℕ). x * down e) v.1))))
le_least (fin false n d) b q (plain m e) B v t =
    let h : n * up d * down e + 0 ≤ m * up e * down d + 0 = cross_of false false (n * up d * down e) (m * up e * down d) (is_true _ t) in
    through b (n * up d) (m * up e) q (down d) (down e) (down_pos d) (le_of_eq (sym v.1)) (omega (arith, h))

plain_within : (a c b q : ℕ) → 0 < c → 0 < q → Held b q → a * q ≤ b * c → Within b q (round binary32 false a c)
plain_within a c b q C Q v h = le_within (round binary32 false b q) b q (round_plain binary32 a c) v (round_mono binary32 a c b q C Q h)

round_within : (s : Bool) (a c b q : ℕ) → 0 < c → 0 < q → Held b q → a * q ≤ b * c → Within b q (round binary32 s a c)
round_within false a c b q C Q v h = plain_within a c b q C Q v h
round_within true a c b q C Q v h =
    subst (Within b q) (sym (round_neg binary32 a c)) (within_neg b q (round binary32 false a c) (plain_within a c b q C Q v h))

-- n / d rounds to b / q
round_least : (a c n d b q : ℕ) → 0 < c → 0 < d → 0 < b → HasValue (round binary32 false n d) false b q → n * c ≤ a * d →
    AtLeast b q (round binary32 false a c)
round_least a c n d b q C D B v h = le_least (round binary32 false n d) b q (round_plain binary32 a c) B v (round_mono binary32 n d a c D C h)

module _ (r : Float) (p p' c b q : ℕ) (C : 0 < c) (Q : 0 < q) (v : Held b q) where
  pub rounds_within : p * q ≤ p' * q + b * c → p' * q ≤ p * q + b * c → Rounds binary32 r p p' c → Within b q r
  rounds_within h k (more n e i) =
      let g = simp add-mul at (rw e at h) in
      subst (Within b q) (sym i) (round_within false n c b q C Q v (omega (arith, g)))
  rounds_within h k (less n e i) =
      let g = simp add-mul at (rw e at k) in
      subst (Within b q) (sym i) (round_within true n c b q C Q v (omega (arith, g)))

  rounds_least : 0 < b → b * c + p' * q ≤ p * q → Rounds binary32 r p p' c → AtLeast b q r
  rounds_least B h (more n e i) =
      let g = simp add-mul at (rw e at h) in
      subst (AtLeast b q) (sym i) (round_least n c b q b q C Q B v (omega (arith, g)))
  rounds_least B h (less n e i) =
      let g = simp add-mul at (rw e at h) in
      let l : b * c ≤ 0 = omega (arith, g) in
      absurd (lt_irrefl 0 (lt_of_lt_of_le (mul-pos B C) l))

-- ---- operations
pub mul_within : (a p b q : ℕ) (x y : Float) → 0 < p * q → Held (a * b) (p * q) → Within a p x → Within b q y →
    Within (a * b) (p * q) (x ·ᶠ y)
unfolding mul
mul_within a p b q nan y P v h k = absurd h
mul_within a p b q (inf s) y P v h k = absurd h
mul_within a p b q (fin s m e) nan P v h k = absurd k
mul_within a p b q (fin s m e) (inf t) P v h k = absurd k
mul_within a p b q (fin s m e) (fin t n d) P v h k =
    round_within (Ieee.unlike s t) (m * up e * (n * up d)) (down e * down d) (a * b) (p * q) (mul-pos (down_pos e) (down_pos d)) P v
    (le_trans (le_of_eq (sym (mul-mul-mul_comm (m * up e) p (n * up d) q)))
    (le_trans (mul-le-mul h k) (le_of_eq (mul-mul-mul_comm a (down e) b (down d)))))

part_of : (s t : Bool) (a b : ℕ) → (above s a + above t b ≤ a + b) × (under s a + under t b ≤ a + b)
part_of false false a b = (omega arith, omega arith)
part_of false true a b = (omega arith, omega arith)
part_of true false a b = (omega arith, omega arith)
part_of true true a b = (omega arith, omega arith)

pub add_within : (a b q : ℕ) (x y : Float) → 0 < q → Held (a + b) q → Within a q x → Within b q y → Within (a + b) q (x +ᶠ y)
unfolding add
add_within a b q nan y Q v h k = absurd h
add_within a b q (inf s) y Q v h k = absurd h
add_within a b q (fin s m e) nan Q v h k = absurd k
add_within a b q (fin s m e) (inf t) Q v h k = absurd k
add_within a b q (fin s m e) (fin t n d) Q v h k =
    let x = m * up e * down d in
    let y = n * up d * down e in
    let c = down e * down d in
    let l : (x + y) * q ≤ (a + b) * c = omega (arith, mul-le-mul_right (down d) h, mul-le-mul_right (down e) k) in
    let i = mul-le-mul_right q (part_of s t x y).0 in
    let j = mul-le-mul_right q (part_of s t x y).1 in
    rounds_within _ _ _ c (a + b) q (mul-pos (down_pos e) (down_pos d)) Q v (le_trans (le_trans i l) (omega arith))
    (le_trans (le_trans j l) (omega arith))
    (sum_rounds binary32 s x t y c)

pub sub_within : (a b q : ℕ) (x y : Float) → 0 < q → Held (a + b) q → Within a q x → Within b q y → Within (a + b) q (x -ᶠ y)
unfolding sub
sub_within a b q x y Q v h k = add_within a b q x (neg y) Q v h (within_neg b q y k)

-- x + y, where y takes away at most b / q
pub add_least : (a b q : ℕ) (x y : Float) → 0 < q → 0 < a → Held a q → AtLeast (a + b) q x → Within b q y → AtLeast a q (x +ᶠ y)
unfolding add
add_least a b q nan y Q A v h k = absurd h
add_least a b q (inf true) y Q A v h k = absurd h
add_least a b q (inf false) nan Q A v h k = absurd k
add_least a b q (inf false) (inf t) Q A v h k = absurd k
add_least a b q (inf false) (fin t n d) Q A v h k = tt
add_least a b q (fin true m e) y Q A v h k = absurd h
add_least a b q (fin false m e) nan Q A v h k = absurd k
add_least a b q (fin false m e) (inf t) Q A v h k = absurd k
add_least a b q (fin false m e) (fin t n d) Q A v h k =
    let x = m * up e * down d in
    let y = n * up d * down e in
    let c = down e * down d in
    rounds_least _ _ _ c a q (mul-pos (down_pos e) (down_pos d)) Q v A
    (left t x y c (mul-le-mul_right (down d) h) (mul-le-mul_right (down e) k))
    (sum_rounds binary32 false x t y c)
  where
    left : (t : Bool) (x y c : ℕ) → (a + b) * down e * down d ≤ m * up e * q * down d → n * up d * q * down e ≤ b * down d * down e →
        a * (down e * down d) + (0 + under t (n * up d * down e)) * q ≤ (m * up e * down d + above t (n * up d * down e)) * q
    left true x y c h k = omega (arith, h, k)
    left false x y c h k = omega (arith, h, k)

pub sub_least : (a b q : ℕ) (x y : Float) → 0 < q → 0 < a → Held a q → AtLeast (a + b) q x → Within b q y → AtLeast a q (x -ᶠ y)
unfolding sub
sub_least a b q x y Q A v h k = add_least a b q x (neg y) Q A v h (within_neg b q y k)

-- x + y, each at least its part
pub both_least : (a b q : ℕ) (x y : Float) → 0 < q → 0 < a → Held (a + b) q → AtLeast a q x → AtLeast b q y → AtLeast (a + b) q (x +ᶠ y)
unfolding add sum
both_least a b q nan y Q A v h k = absurd h
both_least a b q (inf true) y Q A v h k = absurd h
both_least a b q (inf false) nan Q A v h k = absurd k
both_least a b q (inf false) (inf true) Q A v h k = absurd k
both_least a b q (inf false) (inf false) Q A v h k = tt
both_least a b q (inf false) (fin t n d) Q A v h k = tt
both_least a b q (fin true m e) y Q A v h k = absurd h
both_least a b q (fin false m e) nan Q A v h k = absurd k
both_least a b q (fin false m e) (inf true) Q A v h k = absurd k
both_least a b q (fin false m e) (inf false) Q A v h k = tt
both_least a b q (fin false m e) (fin true n d) Q A v h k = absurd k
both_least a b q (fin false m e) (fin false n d) Q A v h k =
    round_least (m * up e * down d + n * up d * down e) (down e * down d) (a + b) q (a + b) q (mul-pos (down_pos e) (down_pos d)) Q (omega arith) v
    (omega (arith, mul-le-mul_right (down d) h, mul-le-mul_right (down e) k))

pub none : {A : Type 0} (b q : ℕ) (d : ℤ) → 0 < b → b * down d ≤ 0 * up d * q → A
none b q d B h =
    absurd (lt_irrefl 0 (lt_of_lt_of_le (mul-pos B (down_pos d)) (le_trans h (le_of_eq (ap (λ (x : ℕ). x * q) (zero-mul (up d)) ∙ zero-mul q)))))

-- a product, by what the product of the bounds rounds to
pub mul_least : (a p b q c r : ℕ) (x y : Float) → 0 < p * q → 0 < a → 0 < b → 0 < c → HasValue (round binary32 false (a * b) (p * q)) false c r →
    AtLeast a p x → AtLeast b q y → AtLeast c r (x ·ᶠ y)
unfolding mul
mul_least a p b q c r nan y P A B C v h k = absurd h
mul_least a p b q c r (inf true) y P A B C v h k = absurd h
mul_least a p b q c r (inf false) nan P A B C v h k = absurd k
mul_least a p b q c r (inf false) (inf true) P A B C v h k = absurd k
mul_least a p b q c r (inf false) (inf false) P A B C v h k = tt
mul_least a p b q c r (inf false) (fin true n d) P A B C v h k = absurd k
mul_least a p b q c r (inf false) (fin false zero d) P A B C v h k = none b q d B k
mul_least a p b q c r (inf false) (fin false (suc n) d) P A B C v h k = rw (eqb-suc-zero n) tt
mul_least a p b q c r (fin true m e) y P A B C v h k = absurd h
mul_least a p b q c r (fin false m e) nan P A B C v h k = absurd k
mul_least a p b q c r (fin false m e) (inf true) P A B C v h k = absurd k
mul_least a p b q c r (fin false zero e) (inf false) P A B C v h k = none a p e A h
mul_least a p b q c r (fin false (suc m) e) (inf false) P A B C v h k = rw (eqb-suc-zero m) tt
mul_least a p b q c r (fin false m e) (fin true n d) P A B C v h k = absurd k
mul_least a p b q c r (fin false m e) (fin false n d) P A B C v h k =
    round_least (m * up e * (n * up d)) (down e * down d) (a * b) (p * q) c r (mul-pos (down_pos e) (down_pos d)) P C v
    (le_trans (le_of_eq (mul-mul-mul_comm a b (down e) (down d)))
    (le_trans (mul-le-mul h k) (le_of_eq (mul-mul-mul_comm (m * up e) p (n * up d) q))))

quotient : (X D Y E a b p c r : ℕ) → 0 < p * b → X * p ≤ a * D → b * E ≤ Y * p → a * r ≤ c * b → X * E * r ≤ c * (Y * D)
quotient X D Y E a b p c r P h k l =
    let i = mul-le-mul_right r (mul-le-mul h k) in
    let j = mul-le-mul_right (D * Y * p) l in
    let g : X * E * r * (p * b) ≤ c * (Y * D) * (p * b) = omega (arith, i, j) in
    le_of_mul-le-mul_right g P

pub div_within : (a b p c r : ℕ) (x y : Float) → 0 < p → 0 < b → 0 < r → Held c r → a * r ≤ c * b → Within a p x → AtLeast b p y →
    Within c r (x /ᶠ y)
unfolding div
div_within a b p c r nan y P B R v l h k = absurd h
div_within a b p c r (inf s) y P B R v l h k = absurd h
div_within a b p c r (fin s m e) nan P B R v l h k = absurd k
div_within a b p c r (fin s m e) (inf true) P B R v l h k = absurd k
div_within a b p c r (fin s m e) (inf false) P B R v l h k = le_trans (le_of_eq (zero-mul r)) (omega arith)
div_within a b p c r (fin s m e) (fin true n d) P B R v l h k = absurd k
div_within a b p c r (fin s m e) (fin false zero d) P B R v l h k = none b p d B k
div_within a b p c r (fin s m e) (fin false (suc n) d) P B R v l h k =
    rw (eqb-suc-zero n)
    (round_within (Ieee.unlike s false) (m * up e * down d) (suc n * up d * down e) c r
    (mul-pos {m = suc n * up d} (mul-pos (omega arith) (up_pos d)) (down_pos e)) R v
    (quotient (m * up e) (down e) (suc n * up d) (down d) a b p c r (mul-pos P B) h k l))

-- by a number above 0
pub div_least : (a p b q c r : ℕ) (x y : Float) → 0 < p * b → 0 < c → HasValue (round binary32 false (a * q) (p * b)) false c r →
    AtLeast a p x → Within b q y → lt n0 y ≡ true → AtLeast c r (x /ᶠ y)
unfolding div lt of_bits
div_least a p b q c r nan y P C v h k l = absurd h
div_least a p b q c r (inf true) y P C v h k l = absurd h
div_least a p b q c r (inf false) nan P C v h k l = absurd k
div_least a p b q c r (inf false) (inf t) P C v h k l = absurd k
div_least a p b q c r (inf false) (fin true n d) P C v h k l = never l
div_least a p b q c r (inf false) (fin false n d) P C v h k l = tt
div_least a p b q c r (fin true m e) y P C v h k l = absurd h
div_least a p b q c r (fin false m e) nan P C v h k l = absurd k
div_least a p b q c r (fin false m e) (inf t) P C v h k l = absurd k
div_least a p b q c r (fin false m e) (fin true n d) P C v h k l = never l
div_least a p b q c r (fin false m e) (fin false zero d) P C v h k l = absurd (not_zero (up d) (down d) (ltb-true (0 * down d) (0 * up d * 1) l))
div_least a p b q c r (fin false m e) (fin false (suc n) d) P C v h k l =
    rw (eqb-suc-zero n)
    (round_least (m * up e * down d) (suc n * up d * down e) (a * q) (p * b) c r
    (mul-pos {m = suc n * up d} (mul-pos (omega arith) (up_pos d)) (down_pos e)) P C v
    (omega (arith, mul-le-mul h k)))
