-- The remainder by TAU in whole numbers: from 4 up, a number and TAU are whole numbers of 2 ^ -21, and TAU is 13176795 of them. Assumes nothing.
-- 0x200000 is 2 ^ 21, 0x800000 is 2 ^ 23, 0x80000000 is 2 ^ 31, 0x7f800000 is the infinity's pattern.
use mathlib.Core.Path.{◌≡◌, refl, sym, ap, ◌∙◌, subst}
use mathlib.Core.Bool.{Bool, true, false, not, cond, true≢false}
use Prim.Native.Nat.{ℕ, zero, suc, ◌+◌, ◌-◌, ◌*◌, ◌/◌, ◌%◌, ◌^◌, ◌≤◌, ◌<◌}
use native.Mathlib.Nat.{le_trans, le_of_eq, lt_of_lt_of_le, lt_of_le_of_lt, lt_of_not-le, le_of_suc-le-suc, mul_assoc, mul_comm}
use native.Mathlib.Nat.{mul_right_comm, add-mul, mul-pos, mul-le-mul_right, mul-lt-mul_of_pos_right, lt_of_mul-lt-mul_right, eq_of_mul-eq-mul_right}
use native.Mathlib.Nat.{mod-lt, mod-eq_of_lt, div-add-mod', mul-add-mod_self_right}
use native.Mathlib.Omega.{arith}
use Rattle.std.proofs.lemmas.Nat.{mul-mod_first}
use lib.Dec.{T, leb, ltb, eqb, leb→le, nleb→lt}
use lib.Pow.{pow-add, pow_pos, pow_mono, shl_lt}
use borrow.Author.Tests.{lt-ltb, lt-leb}
use lib.Ieee.{Float, nan, inf, fin, Format, binary32, low, prec, emax, up, down, odd, units, lt, round, of_bits, of_fields, rem, div}
use lib.Ieee.Fits.{down_pos}
use lib.Ieee.Exact.{HasValue}
use lib.Ieee.Scale.{round_same}
use Rattle.arithmetic.specs.Constants.{tau, ◌%ᶠ◌}
use Rattle.arithmetic.specs.Order.{size, finite}
use Rattle.arithmetic.proofs.Bounds.{never, never'}
use Rattle.arithmetic.proofs.Rounding.{tau_is}
use Rattle.arithmetic.proofs.root.Patterns.{of_bits_is, normal_value, subnormal_value}

-- ---- remainders of products
common_factor : (a t d : ℕ) → 0 < t → 0 < d → a * d % (t * d) ≡ a % t * d
common_factor a t d P D =
    ap (λ (x : ℕ). x * d % (t * d)) (sym (div-add-mod' a t))
    ∙ ap (λ (x : ℕ). x % (t * d)) (add-mul (a / t * t) (a % t) d ∙ ap (λ (x : ℕ). x + a % t * d) (mul_assoc (a / t) t d))
    ∙ mul-add-mod_self_right (a / t) (t * d) (a % t * d)
    ∙ mod-eq_of_lt (mul-lt-mul_of_pos_right (mod-lt a P) D)

-- ---- TAU
by_tau : (s : Bool) (a b d : ℕ) → 0 < d → s ≡ false → a * 0x200000 ≡ b * d →
    round binary32 s (a * 0x200000 % (13176795 * d)) (d * 0x200000) ≡ round binary32 false (b % 13176795) 0x200000
by_tau s a b d D e h =
    ap (λ (t : Bool). round binary32 t (a * 0x200000 % (13176795 * d)) (d * 0x200000)) e
    ∙ ap (λ (n : ℕ). round binary32 false (n % (13176795 * d)) (d * 0x200000)) h
    ∙ ap (λ (n : ℕ). round binary32 false n (d * 0x200000)) (common_factor b 13176795 d (omega arith) D)
    ∙ round_same binary32 false (b % 13176795 * d) (d * 0x200000) (b % 13176795) 0x200000 (mul-pos {m = d} D (omega arith)) (omega arith)
    (mul_assoc (b % 13176795) d 0x200000)

-- the remainder of b times 2 ^ -21
pub rem_whole : (x : Float) (b : ℕ) → HasValue x false b 0x200000 → rem binary32 x tau ≡ round binary32 false (b % 13176795) 0x200000
unfolding rem
rem_whole nan b h = absurd h
rem_whole (inf s) b h = absurd h
rem_whole (fin s m e) b h = rw tau_is (by_tau s (m * up e) b (down e) (down_pos e) h.0 h.1)

-- a whole number over 2 ^ 21
pub over_units : (y : Float) (x : ℕ) → HasValue y false x 1 → div binary32 y (of_bits binary32 0x4a000000) ≡ round binary32 false x 0x200000
unfolding div of_bits
over_units nan x h = absurd h
over_units (inf s) x h = absurd h
over_units (fin true m e) x h = absurd (true≢false h.0)
over_units (fin false m e) x h =
    round_same binary32 false (m * up e * 1) (0x200000 * down e) x 0x200000 (mul-pos {m = 0x200000} (omega arith) (down_pos e)) (omega arith)
    (ap (λ (n : ℕ). n * 0x200000) h.1 ∙ mul_assoc x (down e) 0x200000 ∙ ap (λ (n : ℕ). x * n) (mul_comm (down e) 0x200000))

-- ---- the size of a remainder is the remainder of the size
size_odd : (d : ℕ) (s : Bool) (q k l : ℕ) → size (odd d s q k l) ≡ odd d false q k l
unfolding size odd
size_odd d s zero k l = refl
size_odd d s (suc q) k l = refl

size_units : (f : Format) (s : Bool) (q k : ℕ) → size (units f s q k) ≡ units f false q k
unfolding units size
size_units f s q k = go (ltb (q * 2 ^ k) (2 ^ (low f + suc (emax f))))
  where
    go : (b : Bool) → size (cond b (odd (suc (prec f)) s q k (low f)) (inf s)) ≡ cond b (odd (suc (prec f)) false q k (low f)) (inf false)
    go true = size_odd (suc (prec f)) s q k (low f)
    go false = refl

size_round : (f : Format) (s : Bool) (a b : ℕ) → size (round f s a b) ≡ round f false a b
unfolding round
size_round f s a b = size_units f s _ _

pub size_rem : (r : Float) → size (r %ᶠ tau) ≡ size r %ᶠ tau
unfolding size rem
size_rem nan = refl
size_rem (inf s) = refl
size_rem (fin s m e) = rw tau_is (size_round binary32 s (m * up e * 0x200000 % (13176795 * down e)) (down e * 0x200000))

pub size_finite : (r : Float) → finite (size r) ≡ finite r
unfolding size finite
size_finite nan = refl
size_finite (inf s) = refl
size_finite (fin s m e) = refl

-- ---- the bits of a number that is not below TAU
scaled : (a b d u : ℕ) → 0 < u → 0 < d → a * (0x200000 * u) ≡ b * d → b < 0x800000 * u → a * 0x200000 < 13176795 * d
scaled a b d u U D h l =
    lt_of_mul-lt-mul_right u
    (lt_of_le_of_lt (le_of_eq (mul_assoc a 0x200000 u ∙ h))
    (lt_of_lt_of_le (mul-lt-mul_of_pos_right l D)
    (le_trans (le_of_eq (mul_right_comm 0x800000 u d)) (mul-le-mul_right u (mul-le-mul_right d (omega arith))))))

below_tau : (x : Float) (b : ℕ) → HasValue x false b (2 ^ 149) → b < 2 ^ 151 → lt x tau ≡ true
unfolding lt
below_tau nan b h l = absurd h
below_tau (inf s) b h l = absurd h
below_tau (fin true m e) b h l = absurd (true≢false h.0)
below_tau (fin false m e) b h l = rw tau_is (lt-ltb _ _ (scaled (m * up e) b (down e) (2 ^ 128) (pow_pos 128) (down_pos e) h.1 l))

below_four : (b : ℕ) → b < 0x40800000 → lt (of_bits binary32 b) tau ≡ true
below_four b l = go (leb 0x800000 b) (leb→le 0x800000 b) (nleb→lt 0x800000 b)
  where
    normal : 0x800000 ≤ b → lt (of_bits binary32 b) tau ≡ true
    normal g =
        let m = 0x800000 + b % 0x800000 in
        let x = b / 0x800000 - 1 in
        below_tau (of_bits binary32 b) (m * 2 ^ x) (normal_value b m x (omega arith) (omega arith) refl)
        (lt_of_lt_of_le (shl_lt {a = m} 24 x (omega arith)) (pow_mono {i = 24 + x} {j = 151} (omega arith)))

    subnormal : b < 0x800000 → lt (of_bits binary32 b) tau ≡ true
    subnormal g = below_tau (of_bits binary32 b) b (subnormal_value b g) (lt_of_lt_of_le g (pow_mono {i = 23} {j = 151} (omega arith)))

    go : (t : Bool) → (T t → 0x800000 ≤ b) → (T (not t) → b < 0x800000) → lt (of_bits binary32 b) tau ≡ true
    go true y n = normal (y tt)
    go false y n = subnormal (n tt)

pub at_least_four : (b : ℕ) → lt (of_bits binary32 b) tau ≡ false → 0x40800000 ≤ b
at_least_four b h = le_of_suc-le-suc (lt_of_not-le (λ (g : suc b ≤ 0x40800000). never' (sym (below_four b g) ∙ h)))

not_finite : (t : ℕ) → finite (of_fields binary32 false 255 t) ≡ false
unfolding of_fields finite
not_finite t = go (eqb t 0)
  where
    go : (z : Bool) → finite (cond z (inf false) nan) ≡ false
    go true = refl
    go false = refl

pub finite_bits : (b : ℕ) → b < 0x80000000 → finite (of_bits binary32 b) ≡ true → b < 0x7f800000
finite_bits b small h = lt_of_not-le (λ (g : 0x7f800000 ≤ b). never (sym (infinite g) ∙ h))
  where
    infinite : 0x7f800000 ≤ b → finite (of_bits binary32 b) ≡ false
    infinite g =
        let e : b % 0x80000000 / 0x800000 ≡ 255 = omega arith in
        ap finite (of_bits_is b
        ∙ ap (λ (s : Bool). of_fields binary32 s (b % 0x80000000 / 0x800000) (b % 0x800000)) (lt-leb 0x80000000 b small)
        ∙ ap (λ (x : ℕ). of_fields binary32 false x (b % 0x800000)) e)
        ∙ not_finite (b % 0x800000)

-- ---- a number from 4 up in units of 2 ^ -21
coarser : (a p d v : ℕ) → 0 < v → a * (0x200000 * v) ≡ p * v * d → a * 0x200000 ≡ p * d
coarser a p d v above h = eq_of_mul-eq-mul_right v above (a * 0x200000) (p * d) (mul_assoc a 0x200000 v ∙ h ∙ mul_right_comm p v d)

in_units_lem : (x : Float) (p : ℕ) → HasValue x false (p * 2 ^ 128) (2 ^ 149) → HasValue x false p 0x200000
in_units_lem nan p h = absurd h
in_units_lem (inf s) p h = absurd h
in_units_lem (fin s m e) p h = (h.0, coarser (m * up e) p (down e) (2 ^ 128) (pow_pos 128) h.1)

pub whole_units : (b : ℕ) → 0x40800000 ≤ b → b < 0x7f800000 → HasValue (of_bits binary32 b) false ((b % 0x800000 + 0x800000) * 2 ^ (b / 0x800000 - 129)) 0x200000
whole_units b lo hi =
    let m = b % 0x800000 + 0x800000 in
    let k = b / 0x800000 - 129 in
    let e : m * 2 ^ (k + 128) ≡ m * 2 ^ k * 2 ^ 128 = ap (λ (x : ℕ). m * x) (pow-add 2 k 128) ∙ sym (mul_assoc m (2 ^ k) (2 ^ 128)) in
    in_units_lem (of_bits binary32 b) (m * 2 ^ k)
    (subst (λ (a : ℕ). HasValue (of_bits binary32 b) false a (2 ^ 149)) e (normal_value b m (k + 128) hi (omega arith) (omega arith)))

-- ---- the loop: the significand, doubled i times
abbrev pub Doubled : ℕ → ℕ → ℕ → Type 0
Doubled b x i = x ≡ (b % 0x800000 + 0x800000) * 2 ^ i % 13176795

pub below_tau_units : (b x i : ℕ) → Doubled b x i → x < 13176795
below_tau_units b x i h = lt_of_le_of_lt (le_of_eq h) (mod-lt ((b % 0x800000 + 0x800000) * 2 ^ i) (omega arith))

pub doubled_once_more : (b x i : ℕ) → Doubled b x i → Doubled b (x * 2 % 13176795) (i + 1)
doubled_once_more b x i h =
    let m = b % 0x800000 + 0x800000 in
    ap (λ (y : ℕ). y * 2 % 13176795) h
    ∙ mul-mod_first (m * 2 ^ i) 2 13176795
    ∙ ap (λ (y : ℕ). y % 13176795) (mul_assoc m (2 ^ i) 2 ∙ ap (λ (y : ℕ). m * y) (sym (pow-add 2 i 1)))

pub all_doubled :
    (b x i : ℕ) → i ≡ b / 0x800000 - 129 → Doubled b x i → 0x40800000 ≤ b → b < 0x7f800000 → (y : Float) → HasValue y false x 1
    → div binary32 y (of_bits binary32 0x4a000000) ≡ rem binary32 (of_bits binary32 b) tau
all_doubled b x i z h lo hi y v =
    over_units y x v ∙ ap (λ (k : ℕ). round binary32 false k 0x200000) (rw z at h) ∙ sym (rem_whole (of_bits binary32 b) _ (whole_units b lo hi))
