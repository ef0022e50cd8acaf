-- The number under the root as whole numbers: its significand moved up so that an even power of two is left. Assumes nothing.
-- 0x800000 is 2 ^ 23, 0x1000000 is 2 ^ 24, 0x400000000000 is 2 ^ 46.
use mathlib.Core.Path.{◌≡◌, sym, ap, ◌∙◌, subst}
use Prim.Native.Nat.{ℕ, zero, suc, ◌+◌, ◌-◌, ◌*◌, ◌/◌, ◌%◌, ◌^◌, ◌≤◌, ◌<◌}
use native.Mathlib.Nat.{le_of_suc-le-suc, lt_of_not-le, not-le_of_lt, lt_irrefl, mul-le-mul, mul-le-mul_right}
use native.Mathlib.Nat.{mul_assoc, mul_right_comm, mul-pos, zero-mul, mul-div_cancel}
use native.Mathlib.Omega.{arith}
use mathlib.Core.Bool.{Bool, true, false, not, true≢false}
use lib.Dec.{T, leb, leb→le, nleb→lt}
use mathlib.Core.Logic.{◌⊎◌, inl, inr}
use lib.Pow.{pow-add}
use lib.Ieee.{Float, nan, inf, fin, binary32, up, down, fits}
use lib.Ieee.Fits.{round-fits, down_pos}
use lib.Ieee.Exact.{HasValue}
use Rattle.arithmetic.specs.Root.{nearest_root, root_of}
use Rattle.arithmetic.proofs.root.Squares.{NearestWhole, sticky}
use Rattle.arithmetic.proofs.root.Rounded.{nearest_is}

pub least : (m v : ℕ) → 0x400000000000 ≤ m → NearestWhole m v → 0x800000 ≤ v
least m v lo near =
    let b : m ≤ v * v + v = near.below_upper in
    le_of_suc-le-suc (lt_of_not-le (λ (g : suc v ≤ 0x800000). not-le_of_lt lo (let k : v ≤ 0x7fffff = omega arith in omega (arith, mul-le-mul k k))))

pub greatest : (m v : ℕ) → m ≤ 0xffffff000000 → NearestWhole m v → v < 0x1000000
greatest m v hi near =
    let a : v * v < m + v = near.above_lower in
    lt_of_not-le (λ (g : 0x1000000 ≤ v). not-le_of_lt a (omega (arith, mul-le-mul_right v g)))

pub nearest_fits : (n : ℕ) → T (fits binary32 (nearest_root binary32 n))
nearest_fits n = subst (λ (x : Float). T (fits binary32 x)) (sym (nearest_is n)) (round-fits binary32 false (sticky n) (2 ^ 151))

pub regroup : (m k e g : ℕ) → k + e ≡ g → m * 2 ^ k * 2 ^ e ≡ m * 2 ^ g
regroup m k e g h = mul_assoc m (2 ^ k) (2 ^ e) ∙ ap (λ (x : ℕ). m * x) (sym (pow-add 2 k e) ∙ ap (λ (x : ℕ). 2 ^ x) h)

pub even_or_odd : (g : ℕ) → (g % 2 ≡ 0) ⊎ (g % 2 ≡ 1)
even_or_odd g = go (leb 1 (g % 2)) (leb→le 1 (g % 2)) (nleb→lt 1 (g % 2))
  where
    go : (b : Bool) → (T b → 1 ≤ g % 2) → (T (not b) → g % 2 < 1) → (g % 2 ≡ 0) ⊎ (g % 2 ≡ 1)
    go true y n = let l : 1 ≤ g % 2 = y tt in inr (omega arith)
    go false y n = let l : g % 2 < 1 = n tt in inl (omega arith)

-- m has 24 digits, and is moved up by 24 places, or by 23, so that an even power of two is left
pub record Widened (m n : ℕ) : Type 0 where
  pub low : 0x400000000000 ≤ n
  pub high : n ≤ 0xffffff000000

pub widened : (m g : ℕ) → 0x800000 ≤ m → m < 0x1000000 → Widened m (m * 2 ^ (24 - g % 2))
widened m g lo hi =
    elim (even_or_odd g) [
      | inl e ↦ subst (λ (x : ℕ). Widened m (m * 2 ^ (24 - x))) (sym e) (record { low = omega arith; high = omega arith })
      | inr e ↦ subst (λ (x : ℕ). Widened m (m * 2 ^ (24 - x))) (sym e) (record { low = omega arith; high = omega arith })
    ]

pub half_power : (m g : ℕ) → 128 ≤ g → m * 2 ^ (24 - g % 2) * 2 ^ (2 * ((g + 1) / 2 - 13) + 2) ≡ m * 2 ^ g
half_power m g h = regroup m (24 - g % 2) (2 * ((g + 1) / 2 - 13) + 2) g (omega arith)

-- ---- the root of a value above zero, by its size in units of the smallest value
pub quotient : (s n d u w : ℕ) → 0 < d → s * u ≡ n * d → s * (u * w) / d ≡ n * w
quotient s n d u w D h =
    ap (λ (x : ℕ). x / d) (sym (mul_assoc s u w) ∙ ap (λ (x : ℕ). x * w) h ∙ mul_right_comm n d w) ∙ mul-div_cancel (n * w) D

pub nothing : (u n d c : ℕ) → 0 * u * c ≡ n * d → 0 < n → 0 < d → ⊥
nothing u n d c h N D = lt_irrefl 0 (subst (λ (x : ℕ). 0 < x) (sym h ∙ ap (λ (x : ℕ). x * c) (zero-mul u) ∙ zero-mul c) (mul-pos N D))

pub root_of_value : (x : Float) (n : ℕ) → HasValue x false n (2 ^ 149) → 0 < n → root_of binary32 x ≡ nearest_root binary32 (n * 2 ^ 151)
unfolding root_of
root_of_value nan n h N = absurd h
root_of_value (inf s) n h N = absurd h
root_of_value (fin s zero e) n h N = absurd (nothing (up e) n (down e) (2 ^ 149) h.1 N (down_pos e))
root_of_value (fin true (suc m) e) n h N = absurd (true≢false h.0)
root_of_value (fin false (suc m) e) n h N = ap (nearest_root binary32) (quotient (suc m * up e) n (down e) (2 ^ 149) (2 ^ 151) (down_pos e) h.1)
