-- `RootLaw` of `root_of`: of all the values of binary32, its result is the one nearest to the root. Assumes nothing.
-- 0x800000 is 2 ^ 23, 0x1000000 is 2 ^ 24, 0x400000000000 is 2 ^ 46.
use mathlib.Core.Path.{◌≡◌, refl, sym, ap, ◌∙◌, subst}
use Prim.Native.Nat.{ℕ, zero, suc, ◌+◌, ◌-◌, ◌*◌, ◌/◌, ◌%◌, ◌^◌, ◌≤◌, ◌<◌}
use native.Mathlib.Nat.{le_trans, le_of_eq, le_of_suc-le-suc, lt_of_lt_of_le, lt_of_le_of_lt, lt_of_not-le, not-le_of_lt, lt_irrefl, le-suc}
use native.Mathlib.Nat.{le_antisymm, add_comm, eq-or-lt_of_le, zero-lt-suc, mul_assoc, mul_comm, mul_right_comm, suc-mul, mul-pos}
use native.Mathlib.Nat.{mul-le-mul, mul-le-mul_right, mul-lt-mul_of_pos_right, lt_of_mul-lt-mul_right, mul-div_cancel, zero-mul}
use native.Mathlib.Omega.{arith}
use mathlib.Core.Bool.{Bool, true, false, not, true≢false}
use mathlib.Core.Logic.{◌⊎◌, inl, inr}
use lib.IntN.{ℤ, pos}
use lib.Dec.{T, leb, leb→le, nleb→lt, ltb→lt, lt→ltb}
use lib.Pow.{pow-add, pow_pos, pow_mono}
use lib.Count.{count_leading_zeros, leading_top}
use lib.Ieee.{Float, nan, inf, fin, binary32, up, down, fits, sqrt}
use lib.Ieee.Fits.{down_pos, sqrt-fits}
use lib.Ieee.Exact.{HasValue}
use lib.Ieee.Digits.{back}
use Rattle.arithmetic.specs.Root.{floor_root, nearest_root, root_of, in_units, positive, unsigned, NearestToRoot, RootLaw, IsRoot}
use Rattle.arithmetic.proofs.Rounding.{place, few_digits, not_too_small, not_too_large}
use Rattle.arithmetic.proofs.root.Squares.{NearestWhole, Floor, floor_is, square_suc}
use Rattle.arithmetic.proofs.root.Rounded.{root_after, root_before, root_least, value}
use Rattle.arithmetic.proofs.root.Patterns.{same_value}
use Rattle.arithmetic.proofs.root.Operation.{operation_of_value}
use Rattle.arithmetic.proofs.root.Whole.{least, greatest, widened, half_power, regroup, root_of_value, nearest_fits}

pow_lt_back : (i p : ℕ) → 2 ^ i < 2 ^ p → i < p
pow_lt_back i p h = lt_of_not-le (λ (g : p ≤ i). lt_irrefl (2 ^ i) (lt_of_lt_of_le h (pow_mono g)))

-- ---- a value of the format is z * 2 ^ j units, with z below 2 ^ 24
pub record Digits (n : ℕ) : Type 0 where
  pub z : ℕ
  pub j : ℕ
  pub is : n ≡ z * 2 ^ j
  pub small : z < 2 ^ 24

whole : (m : ℕ) (e : ℤ) (n : ℕ) → m * up e * 2 ^ 149 ≡ n * down e → m * up e * 2 ^ 149 / down e ≡ n
whole m e n h = ap (λ (x : ℕ). x / down e) h ∙ mul-div_cancel n (down_pos e)

digits_of : (y : Float) → T (fits binary32 y) → T (unsigned y) → Digits (in_units y)
digits_of nan h u = absurd u
digits_of (inf s) h u = absurd u
digits_of (fin s zero e) h u =
    record { z = 0; j = 0; is = whole 0 e 0 (ap (λ (x : ℕ). x * 2 ^ 149) (zero-mul (up e)) ∙ sym (zero-mul (down e))); small = pow_pos 24 }
digits_of (fin s (suc m) e) h u =
    let p = place (suc m) e (not_too_small s m e h) in record { z = suc m; j = p.0; is = whole (suc m) e (suc m * 2 ^ p.0) p.1; small = few_digits s m e h }

-- ---- the number under the root, as m * 2 ^ (2 * h + 2) with m from 2 ^ 46 up to 2 ^ 48, and the whole number v that is nearest to the root of m
pub record Parts (n : ℕ) : Type 0 where
  pub m : ℕ
  pub h : ℕ
  pub v : ℕ
  pub is : n ≡ m * 2 ^ (2 * h + 2)
  pub h_le : h ≤ 200
  pub m_ge : 0x400000000000 ≤ m
  pub m_le : m ≤ 0xffffff000000
  pub v_ge : 0x800000 ≤ v
  pub v_lt : v < 0x1000000
  pub near : NearestWhole m v

-- the whole number nearest to the root of m: its whole part q, or q + 1
nearest_whole : (m : ℕ) → 0x400000000000 ≤ m → (v : ℕ) × NearestWhole m v
nearest_whole m lo =
    go (floor_root m) (floor_is m) (leb (m - floor_root m * floor_root m) (floor_root m)) (leb→le (m - floor_root m * floor_root m) (floor_root m))
    (nleb→lt (m - floor_root m * floor_root m) (floor_root m))
  where
    positive : (q : ℕ) → Floor m q → 0 < q
    positive q f = lt_of_not-le (λ (g : q ≤ 0). not-le_of_lt f.1 (omega (arith, square_suc q, mul-le-mul g g)))

    go : (q : ℕ) → Floor m q → (b : Bool) → (T b → m - q * q ≤ q) → (T (not b) → q < m - q * q) → (v : ℕ) × NearestWhole m v
    go q f true d u = let l = d tt in let p = positive q f in let a : q * q ≤ m = f.0 in (q, record { above_lower = omega arith; below_upper = omega arith })
    go q f false d u =
        let l = u tt in let a : m < suc q * suc q = f.1 in (suc q, record { above_lower = omega (arith, square_suc q); below_upper = omega arith })

rounded_root : (n m h : ℕ) → n ≡ m * 2 ^ (2 * h + 2) → h ≤ 200 → 0x400000000000 ≤ m → m ≤ 0xffffff000000 → Parts n
rounded_root n m h e H lo hi =
    let r = nearest_whole m lo in
    record { m = m; h = h; v = r.0; is = e; h_le = H; m_ge = lo; m_le = hi; v_ge = least m r.0 lo r.1; v_lt = greatest m r.0 hi r.1; near = r.1 }

-- m has 24 digits
normalised : (n m g : ℕ) → n ≡ m * 2 ^ g → 0x800000 ≤ m → m < 0x1000000 → 128 ≤ g → g ≤ 410 → Parts n
normalised n m g e lo hi a b =
    let w = widened m g lo hi in
    rounded_root n (m * 2 ^ (24 - g % 2)) ((g + 1) / 2 - 13) (e ∙ sym (half_power m g a)) (omega arith) w.low w.high

parts_of : (z j : ℕ) → 0 < z → z < 2 ^ 24 → z * 2 ^ j < 2 ^ 277 → Parts (z * 2 ^ j * 2 ^ 151)
parts_of z j Z small top =
    let t = leading_top 24 z Z small in
    let i = t.0 in
    let k = count_leading_zeros 24 z in
    let e : k + suc i ≡ 24 = t.1 in
    let p : i + k ≡ 23 = omega arith in
    let q : suc i + k ≡ 24 = omega arith in
    let m = z * 2 ^ k in
    let lo : 2 ^ 23 ≤ m = le_trans (le_of_eq (sym (ap (λ (x : ℕ). 2 ^ x) p) ∙ pow-add 2 i k)) (mul-le-mul_right (2 ^ k) t.2) in
    let hi : m < 2 ^ 24 = lt_of_lt_of_le (mul-lt-mul_of_pos_right t.3 (pow_pos k)) (le_of_eq (sym (pow-add 2 (suc i) k) ∙ ap (λ (x : ℕ). 2 ^ x) q)) in
    let g = j + 151 - k in
    let same : z * 2 ^ j * 2 ^ 151 ≡ m * 2 ^ g = regroup z j 151 (j + 151) refl ∙ sym (regroup z k g (j + 151) (omega arith)) in
    let cap : 2 ^ (23 + g) < 2 ^ 428 =
    lt_of_le_of_lt (le_of_eq (pow-add 2 23 g))
    (lt_of_le_of_lt (mul-le-mul_right (2 ^ g) lo) (lt_of_le_of_lt (le_of_eq (sym same)) (mul-lt-mul_of_pos_right top (pow_pos 151)))) in
    let r : 23 + g < 428 = pow_lt_back (23 + g) 428 cap in
    normalised (z * 2 ^ j * 2 ^ 151) m g same lo hi (omega arith) (omega arith)

-- ---- r = v * 2 ^ h units, and another value of the format
square_mono : (a b : ℕ) → a < b → a * a < b * b
square_mono a b h = lt_of_lt_of_le (omega (arith, square_suc a)) (mul-le-mul h h)

module _ (n y : ℕ) (p : Parts n) (d : Digits y) where
  -- y is a multiple of 2 ^ h, or below 2 ^ 23 of them
  multiple : p.h ≤ d.j → y ≡ d.z * 2 ^ (d.j - p.h) * 2 ^ p.h
  multiple l = d.is ∙ sym (regroup d.z (d.j - p.h) p.h d.j (back d.j p.h l))

  low : d.j < p.h → y < 0x800000 * 2 ^ p.h
  low l =
      lt_of_le_of_lt (le_of_eq d.is)
      (lt_of_lt_of_le (mul-lt-mul_of_pos_right d.small (pow_pos d.j))
      (le_trans (le_of_eq (sym (pow-add 2 24 d.j))) (le_trans (pow_mono (step d.j p.h l)) (le_of_eq (pow-add 2 23 p.h)))))
    where
      step : (j h : ℕ) → j < h → 24 + j ≤ 23 + h
      step j h l = omega arith

  cases : (p.h ≤ d.j) ⊎ (d.j < p.h)
  cases = go (leb p.h d.j) (leb→le p.h d.j) (nleb→lt p.h d.j)
    where
      go : (b : Bool) → (T b → p.h ≤ d.j) → (T (not b) → d.j < p.h) → (p.h ≤ d.j) ⊎ (d.j < p.h)
      go true a b = inl (a tt)
      go false a b = inr (b tt)

  apart : (a b : ℕ) → a * 2 ^ p.h < b * 2 ^ p.h → a * 2 ^ p.h + 2 ^ p.h ≤ b * 2 ^ p.h
  apart a b h = le_trans (le_of_eq (sym (suc-mul a (2 ^ p.h)))) (mul-le-mul_right (2 ^ p.h) (lt_of_mul-lt-mul_right (2 ^ p.h) h))

  -- above r: at least 2 ^ h above it
  next : p.v * 2 ^ p.h < y → p.v * 2 ^ p.h + 2 ^ p.h ≤ y
  next h =
      elim cases [
        | inl l ↦
            subst (λ (x : ℕ). p.v * 2 ^ p.h + 2 ^ p.h ≤ x) (sym (multiple l))
            (apart p.v (d.z * 2 ^ (d.j - p.h)) (subst (λ (x : ℕ). p.v * 2 ^ p.h < x) (multiple l) h))
        | inr l ↦ absurd (not-le_of_lt h (omega (arith, low l, mul-le-mul_right (2 ^ p.h) p.v_ge)))
      ]

  -- below r: at least 2 ^ h below it, unless v is 2 ^ 23
  last : 0x800000 < p.v → y < p.v * 2 ^ p.h → y + 2 ^ p.h ≤ p.v * 2 ^ p.h
  last g h =
      elim cases [
        | inl l ↦
            subst (λ (x : ℕ). x + 2 ^ p.h ≤ p.v * 2 ^ p.h) (sym (multiple l))
            (apart (d.z * 2 ^ (d.j - p.h)) p.v (subst (λ (x : ℕ). x < p.v * 2 ^ p.h) (multiple l) h))
        | inr l ↦ omega (arith, low l, mul-le-mul_right (2 ^ p.h) g, suc-mul 0x800000 (2 ^ p.h))
      ]

  pub above_r : p.v * 2 ^ p.h < y → n < (y + p.v * 2 ^ p.h) * (y + p.v * 2 ^ p.h)
  above_r h =
      let e : suc (2 * p.v) * 2 ^ p.h ≡ 2 * (p.v * 2 ^ p.h) + 2 ^ p.h =
      suc-mul (2 * p.v) (2 ^ p.h) ∙ ap (λ (x : ℕ). x + 2 ^ p.h) (mul_assoc 2 p.v (2 ^ p.h)) in
      let l : suc (2 * p.v) * 2 ^ p.h ≤ y + p.v * 2 ^ p.h = omega (arith, next h) in
      lt_of_le_of_lt (le_of_eq p.is) (lt_of_lt_of_le (root_before p.m p.h p.v p.near) (mul-le-mul l l))

  pub below_r : y < p.v * 2 ^ p.h → (y + p.v * 2 ^ p.h) * (y + p.v * 2 ^ p.h) < n
  below_r h =
      elim (eq-or-lt_of_le p.v_ge) [
        | inl e ↦
            let s : 0x800000 * 2 ^ p.h ≡ p.v * 2 ^ p.h = ap (λ (x : ℕ). x * 2 ^ p.h) e in
            let l : y + p.v * 2 ^ p.h < 0x1000000 * 2 ^ p.h = omega arith in
            lt_of_lt_of_le (square_mono (y + p.v * 2 ^ p.h) (0x1000000 * 2 ^ p.h) l) (le_trans (root_least p.m p.h p.m_ge) (le_of_eq (sym p.is)))
        | inr g ↦
            let L : suc (2 * p.v - 1) ≡ 2 * p.v = omega arith in
            let s : (2 * p.v - 1) * 2 ^ p.h + 2 ^ p.h ≡ 2 * (p.v * 2 ^ p.h) =
            sym (suc-mul (2 * p.v - 1) (2 ^ p.h)) ∙ ap (λ (x : ℕ). x * 2 ^ p.h) L ∙ mul_assoc 2 p.v (2 ^ p.h) in
            let l : y + p.v * 2 ^ p.h ≤ (2 * p.v - 1) * 2 ^ p.h = omega (arith, last g h) in
            lt_of_le_of_lt (mul-le-mul l l) (lt_of_lt_of_le (root_after p.m p.h p.v (2 * p.v - 1) L p.near) (le_of_eq (sym p.is)))
      ]

-- ---- the law
has_units : (r : Float) (a : ℕ) → HasValue r false a (2 ^ 149) → in_units r ≡ a
has_units nan a h = absurd h
has_units (inf s) a h = absurd h
has_units (fin s m e) a h = whole m e a h.1

has_positive : (r : Float) (a : ℕ) → HasValue r false a (2 ^ 149) → 0 < a → T (positive r)
has_positive nan a h A = absurd h
has_positive (inf s) a h A = absurd h
has_positive (fin true m e) a h A = absurd (true≢false h.0)
has_positive (fin false zero e) a h A =
    absurd (lt_irrefl 0 (subst (λ (x : ℕ). 0 < x) (sym h.1 ∙ ap (λ (x : ℕ). x * 2 ^ 149) (zero-mul (up e)) ∙ zero-mul (2 ^ 149))
    (mul-pos A (down_pos e))))
has_positive (fin false (suc m) e) a h A = lt→ltb 0 (suc m) (zero-lt-suc m)

four : (n : ℕ) → 4 * n * 2 ^ 149 ≡ n * 2 ^ 151
four n = ap (λ (x : ℕ). x * 2 ^ 149) (mul_comm 4 n) ∙ mul_assoc n 4 (2 ^ 149)

of_parts : (x r : Float) (n : ℕ) → in_units x ≡ n → T (fits binary32 r) → (p : Parts (n * 2 ^ 151)) → HasValue r false (p.v * 2 ^ p.h) (2 ^ 149) →
    NearestToRoot x r
of_parts x r n e f p h =
    let R = p.v * 2 ^ p.h in
    let u : in_units r ≡ R = has_units r R h in
    let k : 4 * in_units x * 2 ^ 149 ≡ n * 2 ^ 151 = ap (λ (z : ℕ). 4 * z * 2 ^ 149) e ∙ four n in
    record {
      holds = f;
      above_zero = has_positive r R h (mul-pos {m = p.v} (omega (arith, p.v_ge)) (pow_pos p.h));
      above = λ y g s l.
          subst (λ (z : ℕ). z < (in_units y + in_units r) * (in_units y + in_units r)) (sym k)
          (subst (λ (z : ℕ). n * 2 ^ 151 < (in_units y + z) * (in_units y + z)) (sym u)
          (above_r (n * 2 ^ 151) (in_units y) p (digits_of y g s) (subst (λ (z : ℕ). z < in_units y) u l)));
      below = λ y g s l.
          subst (λ (z : ℕ). (in_units y + in_units r) * (in_units y + in_units r) < z) (sym k)
          (subst (λ (z : ℕ). (in_units y + z) * (in_units y + z) < n * 2 ^ 151) (sym u)
          (below_r (n * 2 ^ 151) (in_units y) p (digits_of y g s) (subst (λ (z : ℕ). in_units y < z) u l)));
    }

finite_root : (m : ℕ) (e : ℤ) → T (fits binary32 (fin false (suc m) e)) → NearestToRoot (fin false (suc m) e) (root_of binary32 (fin false (suc m) e))
finite_root m e h =
    let x = fin false (suc m) e in
    let d = place (suc m) e (not_too_small false m e h) in
    let n = suc m * 2 ^ d.0 in
    let cap : n < 2 ^ 277 =
    lt_of_mul-lt-mul_right (down e)
    (lt_of_le_of_lt (le_of_eq (sym d.1)) (lt_of_lt_of_le (mul-lt-mul_of_pos_right (not_too_large false m e h) (pow_pos 149))
    (le_of_eq (mul_right_comm (2 ^ 128) (down e) (2 ^ 149))))) in
    let p = parts_of (suc m) d.0 (zero-lt-suc m) (few_digits false m e h) cap in
    let r : root_of binary32 x ≡ nearest_root binary32 (n * 2 ^ 151) = root_of_value x n (refl, d.1) (mul-pos (zero-lt-suc m) (pow_pos d.0)) in
    subst (λ (y : Float). NearestToRoot x y) (sym r)
    (of_parts x (nearest_root binary32 (n * 2 ^ 151)) n (whole (suc m) e n d.1) (nearest_fits (n * 2 ^ 151)) p
    (subst (λ (k : ℕ). HasValue (nearest_root binary32 k) false (p.v * 2 ^ p.h) (2 ^ 149)) (sym p.is)
    (value p.m p.h p.v p.h_le (omega (arith, p.v_ge)) p.v_lt p.m_ge (omega (arith, p.m_le)) p.near)))

-- ---- two values with that property are one
exact_value : (r : Float) → T (fits binary32 r) → T (positive r) → HasValue r false (in_units r) (2 ^ 149)
exact_value nan h p = absurd p
exact_value (inf s) h p = absurd p
exact_value (fin true m e) h p = absurd p
exact_value (fin false zero e) h p = absurd (lt_irrefl 0 (ltb→lt 0 0 p))
exact_value (fin false (suc m) e) h p =
    let d = place (suc m) e (not_too_small false m e h) in
    (refl, d.1 ∙ ap (λ (n : ℕ). n * down e) (sym (whole (suc m) e (suc m * 2 ^ d.0) d.1)))

positive_unsigned : (r : Float) → T (positive r) → T (unsigned r)
positive_unsigned nan p = absurd p
positive_unsigned (inf s) p = absurd p
positive_unsigned (fin true m e) p = absurd p
positive_unsigned (fin false m e) p = tt

not_less : (x r t : Float) → NearestToRoot x r → NearestToRoot x t → in_units r < in_units t → ⊥
not_less x r t p q l =
    let a = p.above t q.holds (positive_unsigned t q.above_zero) l in
    let b = q.below r p.holds (positive_unsigned r p.above_zero) l in
    let R = in_units r in
    let S = in_units t in
    not-le_of_lt a (le_trans (le_of_eq (ap (λ (n : ℕ). n * n) (add_comm S R))) (le_of_suc-le-suc (le_trans b (le-suc (4 * in_units x * 2 ^ 149)))))

only_one : (x r t : Float) → NearestToRoot x r → NearestToRoot x t → r ≡ t
only_one x r t p q =
    let e : in_units r ≡ in_units t = le_antisymm (le_of_suc-le-suc (lt_of_not-le (not_less x t r q p))) (le_of_suc-le-suc (lt_of_not-le (not_less x r t p q))) in
    same_value binary32 false r t (in_units t) p.holds q.holds
    (subst (λ (n : ℕ). HasValue r false n (2 ^ 149)) e (exact_value r p.holds p.above_zero))
    (exact_value t q.holds q.above_zero)

-- ---- what `root` promises, of the definition's value
defined : (x : Float) → T (fits binary32 x) → RootLaw x (root_of binary32 x)
unfolding root_of
defined nan f = refl
defined (inf true) f = refl
defined (inf false) f = refl
defined (fin s zero e) f = refl
defined (fin true (suc m) e) f = refl
defined (fin false (suc m) e) f = let p = finite_root m e f in record { nearest = p; only = λ t q. only_one (fin false (suc m) e) t _ q p }

is_root : (x r : Float) → T (fits binary32 x) → r ≡ root_of binary32 x → IsRoot x r
is_root x r f h = record { is = h; law = subst (RootLaw x) (sym h) (defined x f) }

-- ---- the operation gives the definition's value
operation_is : (x : Float) → T (fits binary32 x) → sqrt binary32 x ≡ root_of binary32 x
unfolding sqrt root_of
operation_is nan f = refl
operation_is (inf true) f = refl
operation_is (inf false) f = refl
operation_is (fin s zero e) f =
    same_value binary32 s (fin s 0 (pos 0)) (fin s zero e) 0 (sqrt-fits binary32 (fin s zero e)) f (refl, refl)
    (refl, ap (λ (x : ℕ). x * 2 ^ 149) (zero-mul (up e)) ∙ sym (zero-mul (down e)))
operation_is (fin true (suc m) e) f = refl
operation_is (fin false (suc m) e) f =
    let x = fin false (suc m) e in
    let d = place (suc m) e (not_too_small false m e f) in
    let n = suc m * 2 ^ d.0 in
    let N = mul-pos (zero-lt-suc m) (pow_pos d.0) in
    operation_of_value x n (refl, d.1) N ∙ sym (root_of_value x n (refl, d.1) N)

pub operation_is_root : (x r : Float) → T (fits binary32 x) → r ≡ sqrt binary32 x → IsRoot x r
operation_is_root x r f h = is_root x r f (h ∙ operation_is x f)
