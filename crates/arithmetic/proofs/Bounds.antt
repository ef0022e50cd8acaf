-- The order of floats, as the limits need it: a clamped number lies between its ends. Each fact is about the tests `lt` and `le` of lib.Ieee.
use mathlib.Core.Path.{◌≡◌, refl, sym, ap, ◌∙◌, subst}
use mathlib.Core.Bool.{Bool, true, false, cond, not, ◌&&◌, ◌||◌, true≢false, false≢true}
use Prim.Native.Nat.{ℕ, zero, suc, ◌+◌, ◌*◌, ◌<◌}
use native.Mathlib.Nat.{zero-mul, mul-one, mul-pos}
use native.Mathlib.Omega.{arith}
use lib.Dec.{ltb, eqb, not_T}
use lib.IntN.{ℤ, pos}
use borrow.Author.Tests.{ltb-true, ltb-false, eqb-true, le-ltb, eq-eqb, ne_eqb}
use lib.Ieee.{Float, nan, inf, fin, of_bits, up, down, lt, le, eq, ne, neg, is_nan}
use lib.Ieee.Bits.{is_true, is_false}
use lib.Ieee.Fits.{up_pos}
use Rattle.std.proofs.lemmas.Float as law
use Rattle.std.proofs.lemmas.Float.{le_refl, le_of_not-lt, lt_irrefl, lt_of_le_of_lt, le_left, le_right, eq_flip, eq-not_lt, T_from_true, T_from_false}
use Rattle.arithmetic.specs.Constants.{n0}
use Rattle.arithmetic.specs.Order.{clamp, least, greatest, finite}

pub never : {A : Type 0} → false ≡ true → A
never e = absurd (false≢true e)

pub never' : {A : Type 0} → true ≡ false → A
never' e = absurd (true≢false e)

-- ---- numbers
eqb_self : (a : ℕ) → eqb a a ≡ true
eqb_self a = eq-eqb a a refl

-- not a < b: b < a, or they are equal
pub tri : (a b : ℕ) → ltb a b ≡ false → ltb b a || (eqb b a && true) ≡ true
tri a b e = go (ltb b a) refl
  where
    go : (t : Bool) → ltb b a ≡ t → t || (eqb b a && true) ≡ true
    go true h = refl
    go false h =
        let p = ltb-false a b e in
        let q = ltb-false b a h in
        let x : b ≡ a = omega arith in
        rw (eq-eqb b a x)

pub tri' : (a b : ℕ) → ltb a b ≡ false → ltb b a || (eqb a b && true) ≡ true
tri' a b e = go (ltb b a) refl
  where
    go : (t : Bool) → ltb b a ≡ t → t || (eqb a b && true) ≡ true
    go true h = refl
    go false h =
        let p = ltb-false a b e in
        let q = ltb-false b a h in
        let x : a ≡ b = omega arith in
        rw (eq-eqb a b x)

-- -b ≤ a
pub across : (a b : ℕ) → ltb 0 (b + a) || (eqb b a && (false || eqb b 0)) ≡ true
across a b = go (ltb 0 (b + a)) refl
  where
    go : (t : Bool) → ltb 0 (b + a) ≡ t → t || (eqb b a && (false || eqb b 0)) ≡ true
    go true h = refl
    go false h =
        let p = ltb-false 0 (b + a) h in
        let x : b ≡ a = omega arith in
        let y : b ≡ 0 = omega arith in
        rw (eq-eqb b a x, eq-eqb b 0 y)

pub both_zero : (a b : ℕ) → a ≡ 0 → b ≡ 0 → eqb b a && (false || eqb b 0) ≡ true
both_zero a b p q =
    let x : b ≡ a = omega arith in
    rw (eq-eqb b a x, eq-eqb b 0 q)

-- ---- order: the library's laws, of tests that are written as equations
pub le_self : (x : Float) → is_nan x ≡ false → le x x ≡ true
le_self x e = is_true (le x x) (le_refl x (T_from_false (is_nan x) e))

pub le_of_not_lt : (x y : Float) → is_nan x ≡ false → is_nan y ≡ false → lt x y ≡ false → le y x ≡ true
le_of_not_lt x y p q e =
    is_true (le y x) (le_of_not-lt x y (T_from_false (is_nan x) p) (T_from_false (is_nan y) q) (T_from_false (lt x y) e))

pub le_of_lt : (x y : Float) → lt x y ≡ true → le x y ≡ true
le_of_lt x y e = is_true (le x y) (law.le_of_lt x y (T_from_true (lt x y) e))

pub le_trans : (x y z : Float) → le x y ≡ true → le y z ≡ true → le x z ≡ true
le_trans x y z p q = is_true (le x z) (law.le_trans x y z (T_from_true (le x y) p) (T_from_true (le y z) q))

-- what is at most y is not above it
pub le_not_lt : (x y : Float) → le x y ≡ true → lt y x ≡ false
le_not_lt x y p = is_false (lt y x) (not_T (lt y x) (λ h. lt_irrefl x (lt_of_le_of_lt x y x (T_from_true (le x y) p) h)))

pub left_number : (x y : Float) → le x y ≡ true → is_nan x ≡ false
left_number x y e = is_false (is_nan x) (le_left x y (T_from_true (le x y) e))

pub right_number : (x y : Float) → le x y ≡ true → is_nan y ≡ false
right_number x y e = is_false (is_nan y) (le_right x y (T_from_true (le x y) e))

pub finite_number : (x : Float) → finite x ≡ true → is_nan x ≡ false
unfolding finite is_nan
finite_number nan e = never e
finite_number (inf s) e = refl
finite_number (fin s m x) e = refl

-- ---- clamping
module _ (v low high : Float) (number : is_nan v ≡ false) (order : le low high ≡ true) where
  low_of : (a b : Bool) → lt v low ≡ a → lt high v ≡ b → le low (cond a low (cond b high v)) ≡ true
  low_of true b p q = le_self low (left_number low high order)
  low_of false true p q = order
  low_of false false p q = le_of_not_lt v low number (left_number low high order) p

  high_of : (a b : Bool) → lt v low ≡ a → lt high v ≡ b → le (cond a low (cond b high v)) high ≡ true
  high_of true b p q = order
  high_of false true p q = le_self high (right_number low high order)
  high_of false false p q = le_of_not_lt high v (right_number low high order) number q

  pub clamped_low : le low (clamp v low high) ≡ true
  unfolding clamp
  clamped_low = low_of (lt v low) (lt high v) refl refl

  pub clamped_high : le (clamp v low high) high ≡ true
  unfolding clamp
  clamped_high = high_of (lt v low) (lt high v) refl refl

lt_nan : (x : Float) → lt x nan ≡ false
unfolding lt
lt_nan nan = refl
lt_nan (inf s) = refl
lt_nan (fin s m x) = refl

-- a clamped number is a NaN where the number is
pub unclamped : (v low high : Float) → is_nan (clamp v low high) ≡ false → is_nan v ≡ false
unfolding clamp is_nan lt
unclamped nan low high e = never' (rw (lt_nan high) at e)
unclamped (inf s) low high e = refl
unclamped (fin s m x) low high e = refl

-- ---- about zero
pub zero_is : n0 ≡ fin false 0 (pos 0)
unfolding of_bits
zero_is = refl

-- at least zero: an infinity, a number without a sign, or -0
pub data AtLeastZero : Float → Type 0 where
  an_inf : AtLeastZero (inf false)
  plain : (m : ℕ) (e : ℤ) → AtLeastZero (fin false m e)
  minus_zero_lem : (e : ℤ) → AtLeastZero (fin true 0 e)

pub product_zero : (m u : ℕ) → 0 < u → m * u ≡ 0 → m ≡ 0
product_zero zero u p e = refl
product_zero (suc m) u p e =
    let h : 0 < suc m * u = mul-pos (omega arith) p in
    omega arith

pub and_left : (p q : Bool) → p && q ≡ true → p ≡ true
and_left true q e = refl
and_left false q e = never e

zero_is_zero : (x : ℤ) → 0 * up (pos 0) * down x ≡ 0
zero_is_zero x = zero-mul (down x)

zero_times : (u v : ℕ) → 0 * u * v ≡ 0
zero_times u v = rw (zero-mul u) (zero-mul v)

pub at_least : (x : Float) → le (fin false 0 (pos 0)) x ≡ true → AtLeastZero x
unfolding le
at_least nan e = never e
at_least (inf true) e = never e
at_least (inf false) e = an_inf
at_least (fin false m x) e = plain m x
at_least (fin true m x) e =
    let h : 0 * up (pos 0) * down x ≡ m * up x * down (pos 0) = eqb-true _ _ (and_left _ _ e) in
    let z : 0 * up (pos 0) * down x ≡ 0 = zero_is_zero x in
    let w : m * up x ≡ 0 = sym (mul-one (m * up x)) ∙ sym h ∙ z in
    subst (λ (n : ℕ). AtLeastZero (fin true n x)) (sym (product_zero m (up x) (up_pos x) w)) (minus_zero_lem x)

pub between : {x y : Float} → AtLeastZero x → AtLeastZero y → le (neg x) y ≡ true
unfolding le neg
between an_inf an_inf = refl
between an_inf (plain n d) = refl
between an_inf (minus_zero_lem d) = refl
between (plain m x) an_inf = refl
between (plain m x) (plain n d) = across (n * up d * down x) (m * up x * down d)
between (plain m x) (minus_zero_lem d) =
    let z = zero_times (up d) (down x) in
    tri' (m * up x * down d) (0 * up d * down x) (le-ltb (m * up x * down d) (0 * up d * down x) (omega arith))
between (minus_zero_lem x) an_inf = refl
between (minus_zero_lem x) (plain n d) =
    let z = zero_times (up x) (down d) in
    tri (n * up d * down x) (0 * up x * down d) (le-ltb (n * up d * down x) (0 * up x * down d) (omega arith))
between (minus_zero_lem x) (minus_zero_lem d) = both_zero (0 * up d * down x) (0 * up x * down d) (zero_times (up d) (down x)) (zero_times (up x) (down d))

-- -x ≤ y for x and y at least zero
pub zero_between : (x y : Float) → le n0 x ≡ true → le n0 y ≡ true → le (neg x) y ≡ true
zero_between x y p q = between (at_least x (rw zero_is at p)) (at_least y (rw zero_is at q))

-- a number that is not below 0 is a zero or above 0
split : (a b : ℕ) → b ≡ 0 → ltb b a ≡ not (eqb a b && true)
split a b z = go (ltb b a) refl
  where
    go : (t : Bool) → ltb b a ≡ t → t ≡ not (eqb a b && true)
    go true h = let l = ltb-true b a h in rw (ne_eqb a b (apart a b l))
      where
        apart : (a b : ℕ) → b < a → a ≡ b → ⊥
        apart a b l e = omega arith
    go false h =
        let l = ltb-false b a h in
        let e : a ≡ b = omega arith in
        rw (eq-eqb a b e)

zero_or_above' : {x : Float} → AtLeastZero x → lt (fin false 0 (pos 0)) x ≡ not (eq x (fin false 0 (pos 0)))
unfolding lt eq
zero_or_above' an_inf = refl
zero_or_above' (plain m e) = split (m * up e * 1) (0 * down e) (zero-mul (down e))
zero_or_above' (minus_zero_lem e) = ap not (sym (both_zero (0 * down e) (0 * up e * 1) (zero-mul (down e)) (mul-one (0 * up e) ∙ zero-mul (up e))))

pub zero_or_above : (x : Float) → le n0 x ≡ true → lt n0 x ≡ not (eq x n0)
zero_or_above x p = rw zero_is (zero_or_above' (at_least x (rw zero_is at p)))

pub from_0 : {x : Float} → AtLeastZero x → le n0 x ≡ true
unfolding neg
from_0 h = rw zero_is (between (minus_zero_lem (pos 0)) h)

-- ---- least and greatest
pub greatest_right : (a b : Float) → is_nan b ≡ false → le b (greatest a b) ≡ true
unfolding greatest
greatest_right a b p = rw p (go (is_nan a) (lt b a) refl)
  where
    go : (n t : Bool) → lt b a ≡ t → le b (cond n b (cond t a b)) ≡ true
    go true t e = le_self b p
    go false true e = le_of_lt b a e
    go false false e = le_self b p

pub greatest_le : (a b : Float) → le b a ≡ true → le (greatest a b) a ≡ true
unfolding greatest
greatest_le a b p = rw (right_number b a p, left_number b a p) (go (lt b a))
  where
    go : (t : Bool) → le (cond t a b) a ≡ true
    go true = le_self a (right_number b a p)
    go false = p

-- the least of a number that is at least zero and one that is not below it
pub least_zero : (a b : Float) → le n0 a ≡ true → lt b n0 ≡ false → le n0 (least a b) ≡ true
unfolding least
least_zero a b p q = rw (right_number n0 a p) (go (is_nan b) refl)
  where
    go : (n : Bool) → is_nan b ≡ n → le n0 (cond n a (cond (lt a b) a b)) ≡ true
    go true e = p
    go false e = pick (lt a b)
      where
        pick : (t : Bool) → le n0 (cond t a b) ≡ true
        pick true = p
        pick false = le_of_not_lt b n0 e (left_number n0 a p) q

pub least_finite : (a b : Float) → finite a ≡ true → lt b n0 ≡ false → finite (least a b) ≡ true
unfolding least lt is_nan of_bits finite
least_finite nan b p q = never p
least_finite (inf s) b p q = never p
least_finite (fin s m e) nan p q = refl
least_finite (fin s m e) (inf true) p q = never' q
least_finite (fin s m e) (inf false) p q = refl
least_finite (fin s m e) (fin t n d) p q = go (lt (fin s m e) (fin t n d))
  where
    go : (b : Bool) → finite (cond b (fin s m e) (fin t n d)) ≡ true
    go true = refl
    go false = refl

pub zero_number : is_nan n0 ≡ false
unfolding is_nan of_bits
zero_number = refl

-- ---- equal as numbers
pub eq_self : (x : Float) → is_nan x ≡ false → eq x x ≡ true
unfolding eq is_nan
eq_self nan p = never' p
eq_self (inf true) p = refl
eq_self (inf false) p = refl
eq_self (fin true m x) p = rw (eqb_self (m * up x * down x))
eq_self (fin false m x) p = rw (eqb_self (m * up x * down x))

-- a number differs from itself exactly where it is NaN
pub ne_self : (x : Float) → ne x x ≡ is_nan x
unfolding ne is_nan
ne_self nan = refl
ne_self (inf true) = refl
ne_self (inf false) = refl
ne_self (fin true m x) = rw (eqb_self (m * up x * down x))
ne_self (fin false m x) = rw (eqb_self (m * up x * down x))

-- ---- least and greatest where the second is NaN
pub nan_is : (x : Float) → is_nan x ≡ true → x ≡ nan
unfolding is_nan
nan_is nan e = refl
nan_is (inf s) e = never e
nan_is (fin s m x) e = never e

pub lt_left : (x y : Float) → lt x y ≡ true → is_nan x ≡ false
lt_left x y e = left_number x y (le_of_lt x y e)

pub lt_right : (x y : Float) → lt x y ≡ true → is_nan y ≡ false
lt_right x y e = right_number x y (le_of_lt x y e)

module _ (a b : Float) where
  -- where b is NaN: a, which is NaN too where b is given
  other : is_nan b ≡ true → (n : Bool) → is_nan a ≡ n → cond n b a ≡ a
  other p true e = nan_is b p ∙ sym (nan_is a e)
  other p false e = refl

  pub least_nan : is_nan b ≡ true → least a b ≡ a
  unfolding least
  least_nan p = rw p (other p (is_nan a) refl)

  pub greatest_nan : is_nan b ≡ true → greatest a b ≡ a
  unfolding greatest
  greatest_nan p = rw p (other p (is_nan a) refl)

-- ---- equal, below and above exclude each other, and one of them holds of numbers
or_false : (p q : Bool) → p || q ≡ true → q ≡ false → p ≡ true
or_false true q e f = refl
or_false false q e f = never (sym f ∙ e)

pub and_right : (p q : Bool) → p && q ≡ true → q ≡ true
and_right true q e = e
and_right false q e = never e

pub equal_not_below : (x y : Float) → eq x y ≡ true → lt x y ≡ false
equal_not_below x y e = is_false (lt x y) (not_T (lt x y) (eq-not_lt x y (T_from_true (eq x y) e)))

pub equal_not_above : (x y : Float) → eq x y ≡ true → lt y x ≡ false
equal_not_above x y e = is_false (lt y x) (not_T (lt y x) (eq-not_lt y x (eq_flip x y (T_from_true (eq x y) e))))

pub otherwise_below : (x y : Float) → is_nan x ≡ false → is_nan y ≡ false → eq x y ≡ false → lt y x ≡ false → lt x y ≡ true
unfolding le
otherwise_below x y p q e h = or_false (lt x y) (eq x y) (le_of_not_lt y x q p h) e

-- by which a test for 0 and one for above 0 tell what is below
pub ruleset zero_tests = (zero_number, equal_not_above, equal_not_below, otherwise_below)
