-- A rounded sum grows with each of its terms.
use mathlib.Core.Path.{◌≡◌, refl, sym, ap, ◌∙◌, subst}
use mathlib.Core.Bool.{Bool, true, false, cond, not, ◌&&◌, ◌||◌}
use Prim.Native.Nat.{ℕ, zero, suc, ◌+◌, ◌-◌, ◌*◌, ◌^◌, ◌<◌, ◌≤◌}
use native.Mathlib.Nat.{zero-mul, mul-pos, mul_assoc, mul_comm, mul_left_comm, add-mul, mul-le-mul_right}
use native.Mathlib.Omega.{arith}
use lib.Dec.{ltb, eqb}
use lib.IntN.{ℤ}
use borrow.Author.Tests.{ltb-true, ltb-false, eqb-true, le-ltb}
use lib.Ieee as Ieee
use lib.Ieee.{Float, nan, inf, fin, Format, prec, low, binary32, of_bits, up, down, lt, le, eq, ne, neg, is_nan, below, level, round, units, odd, sum, size}
use lib.Ieee.Bits.{is_true}
use lib.Ieee.Fits.{down_pos, round_is}
use lib.Ieee.Order.{round_mono}
use lib.Ieee.Scale.{round_same}
use Rattle.arithmetic.specs.Order.{finite}
pub use Rattle.arithmetic.proofs.Bounds.{le_trans, le_not_lt}
use Rattle.arithmetic.proofs.Bounds.{tri, tri', across, both_zero, product_zero, between, AtLeastZero, an_inf, plain, never}
use Rattle.arithmetic.proofs.Bounds.{never', and_left, and_right}

-- ---- a signed number as a difference
abbrev pub above : Bool → ℕ → ℕ
above false a = a
above true a = 0

abbrev pub under : Bool → ℕ → ℕ
under false a = 0
under true a = a

or_cases : (a b : Bool) → a || b ≡ true → {A : Type 0} → (a ≡ true → A) → (b ≡ true → A) → A
or_cases true b e f h = f refl
or_cases false b e f h = h e

pub cross_of : (s t : Bool) (a b : ℕ) → below s a t b || level s a t b ≡ true → above s a + under t b ≤ above t b + under s a
cross_of false false a b e =
    or_cases (ltb a b) (eqb a b && true) e (λ h. let p = ltb-true a b h in omega arith) (λ h. let p = eqb-true a b (and_left (eqb a b) true h) in omega arith)
cross_of false true a b e =
    let p = eqb-true a b (and_left (eqb a b) (false || eqb a 0) e) in
    let q = eqb-true a 0 (and_right (eqb a b) (false || eqb a 0) e) in
    omega arith
cross_of true false a b e = omega arith
cross_of true true a b e =
    or_cases (ltb b a) (eqb a b && true) e (λ h. let p = ltb-true b a h in omega arith) (λ h. let p = eqb-true a b (and_left (eqb a b) true h) in omega arith)

of_cross : (s t : Bool) (a b : ℕ) → above s a + under t b ≤ above t b + under s a → below s a t b || level s a t b ≡ true
of_cross false false a b h = tri b a (le-ltb b a (omega arith))
of_cross false true a b h = both_zero b a (omega arith) (omega arith)
of_cross true false a b h = across b a
of_cross true true a b h = tri' a b (le-ltb a b (omega arith))

above_mul : (s : Bool) (a k : ℕ) → above s a * k ≡ above s (a * k)
above_mul false a k = refl
above_mul true a k = zero-mul k

under_mul : (s : Bool) (a k : ℕ) → under s a * k ≡ under s (a * k)
under_mul false a k = zero-mul k
under_mul true a k = refl

-- le, as fractions: xp/dx - xn/dx against yp/dy - yn/dy
cross : (s t : Bool) (m n : ℕ) (e d : ℤ) → le (fin s m e) (fin t n d) ≡ true →
    above s (m * up e) * down d + under t (n * up d) * down e ≤ above t (n * up d) * down e + under s (m * up e) * down d
unfolding le
cross s t m n e d h =
    rw (above_mul s (m * up e) (down d), under_mul t (n * up d) (down e), above_mul t (n * up d) (down e), under_mul s (m * up e) (down d))
    (cross_of s t (m * up e * down d) (n * up d * down e) h)

uncross : (s t : Bool) (m n : ℕ) (e d : ℤ) →
    above s (m * up e) * down d + under t (n * up d) * down e ≤ above t (n * up d) * down e + under s (m * up e) * down d →
    le (fin s m e) (fin t n d) ≡ true
unfolding le
uncross s t m n e d h =
    of_cross s t (m * up e * down d) (n * up d * down e)
    (rw (above_mul s (m * up e) (down d), under_mul t (n * up d) (down e), above_mul t (n * up d) (down e), under_mul s (m * up e) (down d)) at h)

-- ---- rounding and signs
odd_neg : (d q k l : ℕ) → odd d true q k l ≡ neg (odd d false q k l)
unfolding odd neg
odd_neg d zero k l = refl
odd_neg d (suc q) k l = refl

units_neg : (f : Format) (q k : ℕ) → units f true q k ≡ neg (units f false q k)
unfolding units neg
units_neg f q k = go (ltb (q * 2 ^ k) (2 ^ (low f + suc (Ieee.emax f))))
  where
    go : (b : Bool) → cond b (odd (suc (prec f)) true q k (low f)) (inf true) ≡ neg (cond b (odd (suc (prec f)) false q k (low f)) (inf false))
    go true = odd_neg (suc (prec f)) q k (low f)
    go false = refl

pub round_neg : (f : Format) (n c : ℕ) → round f true n c ≡ neg (round f false n c)
round_neg f n c = round_is f true n c ∙ units_neg f _ _ ∙ ap neg (sym (round_is f false n c))

odd_plain : (d q k l : ℕ) → AtLeastZero (odd d false q k l)
unfolding odd
odd_plain d zero k l = plain _ _
odd_plain d (suc q) k l = plain _ _

units_plain : (f : Format) (q k : ℕ) → AtLeastZero (units f false q k)
unfolding units
units_plain f q k = go (ltb (q * 2 ^ k) (2 ^ (low f + suc (Ieee.emax f))))
  where
    go : (b : Bool) → AtLeastZero (cond b (odd (suc (prec f)) false q k (low f)) (inf false))
    go true = odd_plain (suc (prec f)) q k (low f)
    go false = an_inf

pub round_plain : (f : Format) (n c : ℕ) → AtLeastZero (round f false n c)
round_plain f n c = subst AtLeastZero (sym (round_is f false n c)) (units_plain f _ _)

-- -y ≤ -x for x ≤ y
pub le_neg : (x y : Float) → le x y ≡ true → le (neg y) (neg x) ≡ true
unfolding le neg
le_neg nan y p = never p
le_neg (inf s) nan p = never p
le_neg (inf true) (inf true) p = refl
le_neg (inf true) (inf false) p = refl
le_neg (inf false) (inf true) p = never p
le_neg (inf false) (inf false) p = refl
le_neg (inf true) (fin t n d) p = refl
le_neg (inf false) (fin t n d) p = never p
le_neg (fin s m e) nan p = never p
le_neg (fin s m e) (inf true) p = never p
le_neg (fin s m e) (inf false) p = refl
le_neg (fin s m e) (fin t n d) p =
    of_cross (not t) (not s) (n * up d * down e) (m * up e * down d)
    (flip s t (m * up e * down d) (n * up d * down e) (cross_of s t (m * up e * down d) (n * up d * down e) p))
  where
    flip : (s t : Bool) (a b : ℕ) → above s a + under t b ≤ above t b + under s a → above (not t) b + under (not s) a ≤ above (not s) a + under (not t) b
    flip false false a b h = omega arith
    flip false true a b h = omega arith
    flip true false a b h = omega arith
    flip true true a b h = omega arith

-- r is (p - q) / c, rounded, whichever sign a zero has
pub data Rounds (f : Format) (r : Float) (p q c : ℕ) : Type 0 where
  more : (n : ℕ) → p ≡ q + n → r ≡ round f false n c → Rounds f r p q c
  less : (n : ℕ) → q ≡ p + n → r ≡ round f true n c → Rounds f r p q c

zero_closed : le (round binary32 false 0 1) (round binary32 true 0 1) ≡ true
unfolding round le
zero_closed = refl

zero_either : (c d : ℕ) → 0 < c → 0 < d → le (round binary32 false 0 c) (round binary32 true 0 d) ≡ true
zero_either c d C D =
    rw (
      round_same binary32 false 0 c 0 1 C (omega arith) (zero-mul 1 ∙ sym (zero-mul c)),
      round_same binary32 true 0 d 0 1 D (omega arith)
          (zero-mul 1 ∙ sym (zero-mul d)),
    ) zero_closed

rounds_mono : (r r' : Float) (p q c p' q' c' : ℕ) → 0 < c → 0 < c' → Rounds binary32 r p q c → Rounds binary32 r' p' q' c' →
    p * c' + q' * c ≤ p' * c + q * c' → le r r' ≡ true
rounds_mono r r' p q c p' q' c' C C' (more n e i) (more n' e' i') h =
    let g = simp add-mul at (rw (e, e') at h) in
    rw (i, i') (is_true _ (round_mono binary32 n c n' c' C C' (omega arith)))
rounds_mono r r' p q c p' q' c' C C' (more n e i) (less n' e' i') h =
    let g = simp add-mul at (rw (e, e') at h) in
    let a : n ≡ 0 = product_zero n c' C' (omega arith) in
    let b : n' ≡ 0 = product_zero n' c C (omega arith) in
    rw (i, i', a, b) (zero_either c c' C C')
rounds_mono r r' p q c p' q' c' C C' (less n e i) (more n' e' i') h =
    rw (i, i', round_neg binary32 n c) (between (round_plain binary32 n c) (round_plain binary32 n' c'))
rounds_mono r r' p q c p' q' c' C C' (less n e i) (less n' e' i') h =
    let g = simp add-mul at (rw (e, e') at h) in
    rw (i, i', round_neg binary32 n c, round_neg binary32 n' c')
    (le_neg _ _ (is_true _ (round_mono binary32 n' c' n c C' C (omega arith))))

pub sum_rounds : (f : Format) (s : Bool) (a : ℕ) (t : Bool) (b c : ℕ) → Rounds f (sum f s a t b c) (above s a + above t b) (under s a + under t b) c
unfolding sum
sum_rounds f false a false b c = more (a + b) (omega arith) refl
sum_rounds f true a true b c = less (a + b) (omega arith) refl
sum_rounds f false a true b c = go (ltb a b) refl
  where
    go : (x : Bool) → ltb a b ≡ x → Rounds f (cond x (round f true (b - a) c) (round f false (a - b) c)) (a + 0) (0 + b) c
    go true h = less (b - a) (let p = ltb-true a b h in omega arith) refl
    go false h = more (a - b) (let p = ltb-false a b h in omega arith) refl
sum_rounds f true a false b c = go (ltb a b) (ltb b a) refl refl
  where
    go : (x y : Bool) → ltb a b ≡ x → ltb b a ≡ y → Rounds f (cond x (round f false (b - a) c) (round f y (a - b) c)) (0 + b) (a + 0) c
    go true y h k = more (b - a) (let p = ltb-true a b h in omega arith) refl
    go false true h k = less (a - b) (let p = ltb-true b a k in omega arith) refl
    go false false h k = more (a - b) (let p = ltb-false a b h in let q = ltb-false b a k in omega arith) refl

-- ---- x + w grows with x
spread : (xp xn dx yp yn dy wp wn dw : ℕ) → xp * dy + yn * dx ≤ yp * dx + xn * dy
    → (xp * dw + wp * dx) * (dy * dw) + (yn * dw + wn * dy) * (dx * dw) ≤ (yp * dw + wp * dy) * (dx * dw) + (xn * dw + wn * dx) * (dy * dw)
spread xp xn dx yp yn dy wp wn dw h =
    let a = simp (add-mul, mul_assoc, mul_comm, mul_left_comm) at (mul-le-mul_right (dw * dw) h) in
    simp (add-mul, mul_assoc, mul_comm, mul_left_comm) (omega arith)

pub add_mono : (s t u : Bool) (m n k : ℕ) (e d c : ℤ) → le (fin s m e) (fin t n d) ≡ true →
    le (Ieee.add binary32 (fin s m e) (fin u k c)) (Ieee.add binary32 (fin t n d) (fin u k c)) ≡ true
unfolding Ieee.add
add_mono s t u m n k e d c h =
    rounds_mono _ _ _ _ (down e * down c) _ _ (down d * down c) (mul-pos (down_pos e) (down_pos c)) (mul-pos (down_pos d) (down_pos c))
    (sum_rounds binary32 s (m * up e * down c) u (k * up c * down e) (down e * down c))
    (sum_rounds binary32 t (n * up d * down c) u (k * up c * down d) (down d * down c))
    (rw (
      ← above_mul s (m * up e) (down c),
      ← above_mul u (k * up c) (down e),
      ← under_mul t (n * up d) (down c),
      ← under_mul u (k * up c) (down d),
      ← above_mul t (n * up d) (down c),
      ← above_mul u (k * up c) (down d),
      ← under_mul s (m * up e) (down c),
      ← under_mul u (k * up c) (down e),
    )
    (spread (above s (m * up e)) (under s (m * up e)) (down e) (above t (n * up d)) (under t (n * up d)) (down d) (above u (k * up c))
    (under u (k * up c)) (down c) (cross s t m n e d h)))

pub sub_mono : (x y w : Float) → finite x ≡ true → finite y ≡ true → finite w ≡ true → le x y ≡ true → le (Ieee.sub binary32 x w) (Ieee.sub binary32 y w) ≡ true
unfolding Ieee.sub neg finite
sub_mono nan y w a b c h = never a
sub_mono (inf s) y w a b c h = never a
sub_mono (fin s m e) nan w a b c h = never b
sub_mono (fin s m e) (inf t) w a b c h = never b
sub_mono (fin s m e) (fin t n d) nan a b c h = never c
sub_mono (fin s m e) (fin t n d) (inf u) a b c h = never c
sub_mono (fin s m e) (fin t n d) (fin u k x) a b c h = add_mono s t (not u) m n k e d x h

pub neg_finite : (x : Float) → finite x ≡ true → finite (neg x) ≡ true
unfolding neg finite
neg_finite nan e = e
neg_finite (inf s) e = never e
neg_finite (fin s m x) e = refl

-- what lies between two finite numbers is finite
pub between_finite : (lo x hi : Float) → finite lo ≡ true → finite hi ≡ true → le lo x ≡ true → le x hi ≡ true → finite x ≡ true
unfolding le finite
between_finite nan x hi a b p q = never a
between_finite (inf s) x hi a b p q = never a
between_finite (fin s m e) nan hi a b p q = never p
between_finite (fin s m e) (inf true) hi a b p q = never p
between_finite (fin s m e) (inf false) nan a b p q = never b
between_finite (fin s m e) (inf false) (inf t) a b p q = never b
between_finite (fin s m e) (inf false) (fin t n d) a b p q = never q
between_finite (fin s m e) (fin t n d) hi a b p q = refl

-- a sum that is a number has a number on its right
pub add_number : (x y : Float) → is_nan (Ieee.add binary32 x y) ≡ false → is_nan y ≡ false
unfolding Ieee.add is_nan
add_number nan y e = never' e
add_number (inf s) nan e = never' e
add_number (inf s) (inf t) e = refl
add_number (inf s) (fin t n d) e = refl
add_number (fin s m x) nan e = never' e
add_number (fin s m x) (inf t) e = refl
add_number (fin s m x) (fin t n d) e = refl
