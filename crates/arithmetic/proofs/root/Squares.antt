-- `floor_root n` is the largest number whose square is at most n (`floor_is`). Facts about squares that need no floats. Assumes nothing.
use mathlib.Core.Path.{◌≡◌, sym, ap, ◌∙◌, subst}
use Prim.Native.Nat.{ℕ, zero, suc, ◌+◌, ◌*◌, ◌/◌, ◌^◌, ◌≤◌, ◌<◌, zero-le}
use native.Mathlib.Nat.{le_trans, le_of_eq, lt_of_lt_of_le, lt_of_not-le, not-le_of_lt, le_of_suc-le-suc, suc-mul, mul-suc, mul-le-mul}
use native.Mathlib.Nat.{mul-mul-mul_comm, pow-suc, div-lt_iff_lt-mul, zero-lt-suc}
use native.Mathlib.Omega.{arith}
use mathlib.Core.Bool.{Bool, true, false, not, cond}
use lib.Dec.{T, leb, eqb, leb→le, nleb→lt, eqb→eq, lit≤}
use lib.Ieee.{size}
use lib.Ieee.Digits.{size-lt}
use Rattle.arithmetic.specs.Root.{floor_root_by, floor_root}

-- v is the whole number nearest to the root of m, which lies between v - 1/2 and v + 1/2
pub record NearestWhole (m v : ℕ) : Type 0 where
  pub above_lower : v * v < m + v
  pub below_upper : m ≤ v * v + v

pub square_suc : (r : ℕ) → suc r * suc r ≡ r * r + 2 * r + 1
square_suc r = suc-mul r (suc r) ∙ ap (λ (x : ℕ). x + suc r) (mul-suc r r) ∙ tidy (r * r) r
  where
    tidy : (s r : ℕ) → s + r + suc r ≡ s + 2 * r + 1
    tidy s r = omega arith

pub square_twice : (s : ℕ) → 2 * s * (2 * s) ≡ 4 * (s * s)
square_twice s = mul-mul-mul_comm 2 s 2 s

pub root_lt : (a b : ℕ) → a * a < b * b → a < b
root_lt a b h = lt_of_not-le (λ (g : b ≤ a). not-le_of_lt h (mul-le-mul g g))

pub root_le : (a b : ℕ) → a * a ≤ b * b → a ≤ b
root_le a b h = le_of_suc-le-suc (lt_of_not-le (λ (g : suc b ≤ a). not-le_of_lt (lt_of_lt_of_le (more b) (mul-le-mul g g)) h))
  where
    more : (b : ℕ) → b * b < suc b * suc b
    more b = omega (arith, square_suc b)

-- r is the root of n, cut to a whole number
abbrev pub Floor : ℕ → ℕ → Type 0
Floor n r = (r * r ≤ n) × (n < suc r * suc r)

step : (n s : ℕ) → Floor (n / 4) s → Floor n (cond (leb (suc (2 * s) * suc (2 * s)) n) (suc (2 * s)) (2 * s))
step n s h = go (leb (suc (2 * s) * suc (2 * s)) n) (leb→le (suc (2 * s) * suc (2 * s)) n) (nleb→lt (suc (2 * s) * suc (2 * s)) n)
  where
    below : (n t : ℕ) → n / 4 < t → n < 4 * t
    below n t h = omega arith

    above : (n t : ℕ) → t ≤ n / 4 → 4 * t ≤ n
    above n t h = omega arith

    e : 2 * suc s * (2 * suc s) ≡ 4 * (suc s * suc s)
    e = square_twice (suc s)

    same : suc (suc (2 * s)) ≡ 2 * suc s
    same = omega arith

    go : (b : Bool) → (T b → suc (2 * s) * suc (2 * s) ≤ n) → (T (not b) → n < suc (2 * s) * suc (2 * s)) → Floor n (cond b (suc (2 * s)) (2 * s))
    go true y z = (y tt, subst (λ (x : ℕ). n < x * x) (sym same) (lt_of_lt_of_le (below n (suc s * suc s) h.1) (le_of_eq (sym e))))
    go false y z = (le_trans (le_of_eq (square_twice s)) (above n (s * s) h.0), z tt)

floor_root_by_is : (k n : ℕ) → n < 4 ^ k → Floor n (floor_root_by k n)
unfolding floor_root_by
floor_root_by_is zero n h = (zero-le, h)
floor_root_by_is (suc k) n h =
    step n (floor_root_by k (n / 4)) (floor_root_by_is k (n / 4) ((div-lt_iff_lt-mul (zero-lt-suc 3)).1 (subst (λ (x : ℕ). n < x) (pow-suc 4 k) h)))

two_four : (k : ℕ) → 2 ^ k ≤ 4 ^ k
two_four zero = lit≤ tt
two_four (suc k) = le_trans (le_of_eq (pow-suc 2 k)) (le_trans (mul-le-mul (two_four k) (lit≤ {m = 2} {n = 4} tt)) (le_of_eq (sym (pow-suc 4 k))))

pub floor_is : (n : ℕ) → Floor n (floor_root n)
unfolding floor_root
floor_is n = floor_root_by_is (size n) n (lt_of_lt_of_le (size-lt n) (two_four (size n)))

-- ---- twice the root, with 1 for a root that is not whole: a number t lies below or above the root just where 2 * t lies below or above this
abbrev pub sticky : ℕ → ℕ
sticky n = 2 * floor_root n + cond (eqb (floor_root n * floor_root n) n) 0 1

pub sticky_above : (n t : ℕ) → t * t < n → 2 * t < sticky n
sticky_above n t h = go (eqb (floor_root n * floor_root n) n) (eqb→eq (floor_root n * floor_root n) n)
  where
    le : t ≤ floor_root n
    le = le_of_suc-le-suc (root_lt t (suc (floor_root n)) (omega (arith, floor_is n)))

    apart : (t r : ℕ) → t * t < n → r * r ≡ n → t < r
    apart t r h e = root_lt t r (omega arith)

    go : (b : Bool) → (T b → floor_root n * floor_root n ≡ n) → 2 * t < 2 * floor_root n + cond b 0 1
    go true e = omega (arith, apart t (floor_root n) h (e tt))
    go false e = omega (arith, le)

pub sticky_below : (n t : ℕ) → n < t * t → sticky n < 2 * t
sticky_below n t h = go (eqb (floor_root n * floor_root n) n)
  where
    lt : floor_root n < t
    lt = root_lt (floor_root n) t (omega (arith, floor_is n))

    go : (b : Bool) → 2 * floor_root n + cond b 0 1 < 2 * t
    go true = omega (arith, lt)
    go false = omega (arith, lt)

pub sticky_ge : (n t : ℕ) → t * t ≤ n → 2 * t ≤ sticky n
sticky_ge n t h = omega (arith, le)
  where
    le : t ≤ floor_root n
    le = le_of_suc-le-suc (root_lt t (suc (floor_root n)) (omega (arith, floor_is n)))
