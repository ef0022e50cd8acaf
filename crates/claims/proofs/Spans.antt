-- Bounds in order: what rounded sums, products and quotients keep of the order of their terms. Assumes nothing.
use mathlib.Core.Path.{◌≡◌, refl, sym, ap, ◌∙◌, subst}
use mathlib.Core.Bool.{Bool, true, false, cond, not, ◌&&◌, beq}
use Prim.Native.Nat.{ℕ, zero, suc, ◌+◌, ◌-◌, ◌*◌, ◌^◌, ◌<◌}
use native.Mathlib.Nat.{zero-mul, mul-pos, mul_comm, add_comm}
use native.Mathlib.Omega.{arith}
use lib.Dec.{ltb, eqb}
use lib.IntN.{ℤ, pos}
use borrow.Author.Tests.{ltb-true, ltb-false, ne_eqb}
use lib.Ieee as Ieee
use lib.Ieee.{Float, nan, inf, fin, prec, low, emax, binary32, of_bits, up, down, unlike, lt, le, eq, neg, is_nan, round, units, odd, sum}
use lib.Ieee.Fits.{up_pos, down_pos, round_is}
use lib.Ieee.Scale.{round_same}
use Rattle.arithmetic.specs.Constants.{◌+ᶠ◌, ◌-ᶠ◌, ◌·ᶠ◌, ◌/ᶠ◌, n0}
use Rattle.arithmetic.specs.Order.{finite, greatest}
use Rattle.arithmetic.proofs.Bounds.{finite_number, AtLeastZero, an_inf, plain, minus_zero_lem, at_least, between, zero_is, never, never', right_number, le_self}
use Rattle.arithmetic.proofs.Sums.{le_trans, le_neg, add_mono, sub_mono}

-- ---- at least zero, at most zero, positive

pub at_least_zero_lem : (x : Float) → le n0 x ≡ true → AtLeastZero x
at_least_zero_lem x p = at_least x (rw zero_is at p)

-- finite and above zero
pub data Positive : Float → Type 0 where
  positive : (n : ℕ) (d : ℤ) → Positive (fin false (suc n) d)

zero_times : (u v : ℕ) → 0 * u * v ≡ 0
zero_times u v = rw (zero-mul u) (zero-mul v)

-- above a number without a sign
above_plain : (k : ℕ) (c : ℤ) (y : Float) → lt (fin false k c) y ≡ true → finite y ≡ true → Positive y
unfolding lt finite
above_plain k c nan p f = never f
above_plain k c (inf s) p f = never f
above_plain k c (fin false zero d) p f =
    let h = ltb-true (k * up c * down d) (0 * up d * down c) p in
    let z = zero_times (up d) (down c) in
    absurd (omega arith)
above_plain k c (fin false (suc n) d) p f = positive n d
above_plain k c (fin true n d) p f = never p

pub is_positive : (y : Float) → lt n0 y ≡ true → finite y ≡ true → Positive y
is_positive y p f = above_plain 0 (pos 0) y (rw zero_is at p) f

pub positive_least : {y : Float} → Positive y → AtLeastZero y
positive_least (positive n d) = plain (suc n) d

pub positive_finite : {y : Float} → Positive y → finite y ≡ true
unfolding finite
positive_finite (positive n d) = refl

-- x is at most zero where -x is at least zero
neg_neg : (x : Float) → neg (neg x) ≡ x
unfolding neg
neg_neg nan = refl
neg_neg (inf true) = refl
neg_neg (inf false) = refl
neg_neg (fin true m e) = refl
neg_neg (fin false m e) = refl

pub in_order : (x y : Float) → AtLeastZero (neg x) → AtLeastZero y → le x y ≡ true
in_order x y p q = subst (λ (z : Float). le z y ≡ true) (neg_neg x) (between p q)

pub greatest_positive : (a : Float) {b : Float} → Positive b → finite a ≡ true → Positive (greatest a b)
unfolding greatest is_nan
greatest_positive a (positive k c) f = rw (finite_number a f) (go (lt (fin false (suc k) c) a) refl)
  where
    go : (t : Bool) → lt (fin false (suc k) c) a ≡ t → Positive (cond t a (fin false (suc k) c))
    go true p = above_plain (suc k) c a p f
    go false p = positive k c

-- ---- a rounded fraction has its sign
abbrev Signed : Bool → Float → Type 0
Signed false x = AtLeastZero x
Signed true x = AtLeastZero (neg x)

odd_signed : (s : Bool) (d q k l : ℕ) → Signed s (odd d s q k l)
unfolding odd neg
odd_signed false d zero k l = plain _ _
odd_signed false d (suc q) k l = plain _ _
odd_signed true d zero k l = plain _ _
odd_signed true d (suc q) k l = plain _ _

units_signed : (s : Bool) (q k : ℕ) → Signed s (units binary32 s q k)
unfolding units neg
units_signed s q k = go s (ltb (q * 2 ^ k) (2 ^ (low binary32 + suc (emax binary32))))
  where
    go : (s b : Bool) → Signed s (cond b (odd (suc (prec binary32)) s q k (low binary32)) (inf s))
    go s true = odd_signed s (suc (prec binary32)) q k (low binary32)
    go false false = an_inf
    go true false = an_inf

round_signed : (s : Bool) (n c : ℕ) → Signed s (round binary32 s n c)
round_signed s n c = subst (Signed s) (sym (round_is binary32 s n c)) (units_signed s _ _)

-- a rounded zero keeps its sign
zero_signed : (s : Bool) → round binary32 s 0 1 ≡ fin s 0 (pos 0)
unfolding round
zero_signed true = refl
zero_signed false = refl

zero_rounded : (s : Bool) (c : ℕ) → 0 < c → round binary32 s 0 c ≡ fin s 0 (pos 0)
zero_rounded s c C = round_same binary32 s 0 c 0 1 C (omega arith) (zero-mul 1 ∙ sym (zero-mul c)) ∙ zero_signed s

minus_zero_least : (n c : ℕ) → 0 < c → n ≡ 0 → AtLeastZero (round binary32 true n c)
minus_zero_least n c C z = subst AtLeastZero (sym (ap (λ (k : ℕ). round binary32 true k c) z ∙ zero_rounded true c C)) (minus_zero_lem (pos 0))

-- ---- products and quotients: of a number that is at least zero and a positive one
suc_not_zero : (n : ℕ) → eqb (suc n) 0 ≡ false
suc_not_zero n = ne_eqb (suc n) 0 (λ e. absurd (omega arith))

pub product_right : {x y : Float} → AtLeastZero x → Positive y → AtLeastZero (x ·ᶠ y)
unfolding Ieee.mul
product_right an_inf (positive n d) = rw (suc_not_zero n) an_inf
product_right (plain m e) (positive n d) = round_signed false (m * up e * (suc n * up d)) (down e * down d)
product_right (minus_zero_lem e) (positive n d) =
    minus_zero_least (0 * up e * (suc n * up d)) (down e * down d) (mul-pos (down_pos e) (down_pos d)) (zero_times (up e) (suc n * up d))

-- (-x) · y is -(x · y)
unlike_not : (s t : Bool) → unlike (not s) t ≡ not (unlike s t)
unlike_not true true = refl
unlike_not true false = refl
unlike_not false true = refl
unlike_not false false = refl

odd_neg : (d q k l : ℕ) (s : Bool) → odd d (not s) q k l ≡ neg (odd d s q k l)
unfolding odd neg
odd_neg d zero k l s = refl
odd_neg d (suc q) k l s = refl

units_neg : (q k : ℕ) (s : Bool) → units binary32 (not s) q k ≡ neg (units binary32 s q k)
unfolding units neg
units_neg q k s = go (ltb (q * 2 ^ k) (2 ^ (low binary32 + suc (emax binary32))))
  where
    go : (b : Bool) →
        cond b (odd (suc (prec binary32)) (not s) q k (low binary32)) (inf (not s)) ≡ neg (cond b (odd (suc (prec binary32)) s q k (low binary32)) (inf s))
    go true = odd_neg (suc (prec binary32)) q k (low binary32) s
    go false = refl

round_neg : (n c : ℕ) (s : Bool) → round binary32 (not s) n c ≡ neg (round binary32 s n c)
round_neg n c s = round_is binary32 (not s) n c ∙ units_neg _ _ s ∙ ap neg (sym (round_is binary32 s n c))

either_neg : (b s t : Bool) → cond b nan (inf (unlike (not s) t)) ≡ neg (cond b nan (inf (unlike s t)))
unfolding neg
either_neg true s t = refl
either_neg false s t = ap inf (unlike_not s t)

neg_mul : (x y : Float) → neg x ·ᶠ y ≡ neg (x ·ᶠ y)
unfolding Ieee.mul neg
neg_mul nan y = refl
neg_mul (inf s) nan = refl
neg_mul (inf s) (inf t) = ap inf (unlike_not s t)
neg_mul (inf s) (fin t n d) = either_neg (eqb n 0) s t
neg_mul (fin s m e) nan = refl
neg_mul (fin s m e) (inf t) = either_neg (eqb m 0) s t
neg_mul (fin s m e) (fin t n d) =
    let a = m * up e * (n * up d) in
    let c = down e * down d in
    ap (λ (u : Bool). round binary32 u a c) (unlike_not s t) ∙ round_neg a c (unlike s t)

unlike_comm : (s t : Bool) → unlike s t ≡ unlike t s
unlike_comm true true = refl
unlike_comm true false = refl
unlike_comm false true = refl
unlike_comm false false = refl

mul_swap : (x y : Float) → x ·ᶠ y ≡ y ·ᶠ x
unfolding Ieee.mul
mul_swap nan nan = refl
mul_swap nan (inf t) = refl
mul_swap nan (fin t n d) = refl
mul_swap (inf s) nan = refl
mul_swap (inf s) (inf t) = ap inf (unlike_comm s t)
mul_swap (inf s) (fin t n d) = ap (λ (u : Bool). cond (eqb n 0) nan (inf u)) (unlike_comm s t)
mul_swap (fin s m e) nan = refl
mul_swap (fin s m e) (inf t) = ap (λ (u : Bool). cond (eqb m 0) nan (inf u)) (unlike_comm s t)
mul_swap (fin s m e) (fin t n d) = rw (unlike_comm s t, mul_comm (m * up e) (n * up d), mul_comm (down e) (down d)) refl

pub product_left : {x y : Float} → Positive x → AtLeastZero y → AtLeastZero (x ·ᶠ y)
product_left {x} {y} p q = subst AtLeastZero (mul_swap y x) (product_right q p)

divisor : (n : ℕ) (d e : ℤ) → 0 < suc n * up d * down e
divisor n d e = mul-pos (mul-pos {m = suc n} (omega arith) (up_pos d)) (down_pos e)

pub quotient : {x y : Float} → AtLeastZero x → Positive y → AtLeastZero (x /ᶠ y)
unfolding Ieee.div
quotient an_inf (positive n d) = an_inf
quotient (plain m e) (positive n d) = rw (suc_not_zero n) (round_signed false (m * up e * down d) (suc n * up d * down e))
quotient (minus_zero_lem e) (positive n d) =
    rw (suc_not_zero n) (minus_zero_least (0 * up e * down d) (suc n * up d * down e) (divisor n d e) (zero_times (up e) (down d)))

-- from -(x · y) to z · w
pub spans : (x y z w : Float) → AtLeastZero (x ·ᶠ y) → AtLeastZero (z ·ᶠ w) → le (neg x ·ᶠ y) (z ·ᶠ w) ≡ true
spans x y z w p q = rw (neg_mul x y) (between p q)

-- ---- sums
opposite : (a b c : ℕ) (x y : Bool) → ltb a b ≡ x → ltb b a ≡ y
    → cond x (round binary32 true (b - a) c) (round binary32 false (a - b) c) ≡ cond y (round binary32 false (a - b) c) (round binary32 x (b - a) c)
opposite a b c true true p q =
    let h = ltb-true a b p in
    let k = ltb-true b a q in
    absurd (omega arith)
opposite a b c true false p q = refl
opposite a b c false true p q = refl
opposite a b c false false p q =
    let h = ltb-false a b p in
    let k = ltb-false b a q in
    let z : a - b ≡ b - a = omega arith in
    ap (λ (n : ℕ). round binary32 false n c) z

sum_swap : (s : Bool) (a : ℕ) (t : Bool) (b c : ℕ) → sum binary32 s a t b c ≡ sum binary32 t b s a c
unfolding sum
sum_swap true a true b c = ap (λ (n : ℕ). round binary32 true n c) (add_comm a b)
sum_swap false a false b c = ap (λ (n : ℕ). round binary32 false n c) (add_comm a b)
sum_swap false a true b c = opposite a b c (ltb a b) (ltb b a) refl refl
sum_swap true a false b c = sym (opposite b a c (ltb b a) (ltb a b) refl refl)

add_swap : (x y : Float) → x +ᶠ y ≡ y +ᶠ x
unfolding Ieee.add
add_swap nan nan = refl
add_swap nan (inf t) = refl
add_swap nan (fin t n d) = refl
add_swap (inf s) nan = refl
add_swap (inf true) (inf true) = refl
add_swap (inf true) (inf false) = refl
add_swap (inf false) (inf true) = refl
add_swap (inf false) (inf false) = refl
add_swap (inf s) (fin t n d) = refl
add_swap (fin s m e) nan = refl
add_swap (fin s m e) (inf t) = refl
add_swap (fin s m e) (fin t n d) =
    sum_swap s (m * up e * down d) t (n * up d * down e) (down e * down d)
    ∙ ap (λ (c : ℕ). sum binary32 t (n * up d * down e) s (m * up e * down d) c) (mul_comm (down e) (down d))

-- ---- sums that are numbers
least_number : {x : Float} → AtLeastZero x → is_nan x ≡ false
unfolding is_nan
least_number an_inf = refl
least_number (plain m e) = refl
least_number (minus_zero_lem e) = refl

neg_nan : (x : Float) → is_nan (neg x) ≡ is_nan x
unfolding is_nan neg
neg_nan nan = refl
neg_nan (inf s) = refl
neg_nan (fin s m e) = refl

signed_number : (s : Bool) (x : Float) → Signed s x → is_nan x ≡ false
signed_number false x p = least_number p
signed_number true x p = sym (neg_nan x) ∙ least_number p

pub round_number : (s : Bool) (n c : ℕ) → is_nan (round binary32 s n c) ≡ false
round_number s n c = signed_number s _ (round_signed s n c)

either_number : (b : Bool) (x y : Float) → is_nan x ≡ false → is_nan y ≡ false → is_nan (cond b x y) ≡ false
either_number true x y p q = p
either_number false x y p q = q

sum_number : (s : Bool) (a : ℕ) (t : Bool) (b c : ℕ) → is_nan (sum binary32 s a t b c) ≡ false
unfolding sum
sum_number s a t b c =
    either_number (beq s t) _ _ (round_number s (a + b) c)
    (either_number (ltb a b) _ _ (round_number t (b - a) c) (round_number (s && ltb b a) (a - b) c))

-- a finite number and a number
plus_number : (x y : Float) → finite x ≡ true → is_nan y ≡ false → is_nan (x +ᶠ y) ≡ false
unfolding Ieee.add finite is_nan
plus_number nan y f p = never f
plus_number (inf s) y f p = never f
plus_number (fin s m e) nan f p = p
plus_number (fin s m e) (inf t) f p = refl
plus_number (fin s m e) (fin t n d) f p = sum_number s (m * up e * down d) t (n * up d * down e) (down e * down d)

bottom : (x : Float) → is_nan x ≡ false → le (inf true) x ≡ true
unfolding le is_nan
bottom nan p = never' p
bottom (inf true) p = refl
bottom (inf false) p = refl
bottom (fin s m e) p = refl

top : (x : Float) → is_nan x ≡ false → le x (inf false) ≡ true
unfolding le is_nan
top nan p = never' p
top (inf true) p = refl
top (inf false) p = refl
top (fin s m e) p = refl

-- ---- h + u grows with u
grows : (s t r : Bool) (m n k : ℕ) (e d c : ℤ) → le (fin t n d) (fin r k c) ≡ true → le (fin s m e +ᶠ fin t n d) (fin s m e +ᶠ fin r k c) ≡ true
grows s t r m n k e d c p = rw (add_swap (fin s m e) (fin t n d), add_swap (fin s m e) (fin r k c)) (add_mono t r s n k m d c e p)

below_inf : (h u : Float) → finite h ≡ true → is_nan u ≡ false → le (h +ᶠ u) (h +ᶠ inf false) ≡ true
unfolding finite Ieee.add
below_inf nan u f p = never f
below_inf (inf s) u f p = never f
below_inf (fin s m e) u f p = top (fin s m e +ᶠ u) (plus_number (fin s m e) u f p)

above_inf : (h v : Float) → finite h ≡ true → is_nan v ≡ false → le (h +ᶠ inf true) (h +ᶠ v) ≡ true
unfolding finite Ieee.add
above_inf nan v f p = never f
above_inf (inf s) v f p = never f
above_inf (fin s m e) v f p = bottom (fin s m e +ᶠ v) (plus_number (fin s m e) v f p)

finite_below : (h : Float) (t r : Bool) (n k : ℕ) (d c : ℤ) → finite h ≡ true → le (fin t n d) (fin r k c) ≡ true →
    le (h +ᶠ fin t n d) (h +ᶠ fin r k c) ≡ true
unfolding finite
finite_below nan t r n k d c f p = never f
finite_below (inf s) t r n k d c f p = never f
finite_below (fin s m e) t r n k d c f p = grows s t r m n k e d c p

pub add_below : (h u v : Float) → finite h ≡ true → le u v ≡ true → le (h +ᶠ u) (h +ᶠ v) ≡ true
unfolding le is_nan
add_below h nan v f p = never p
add_below h (inf true) v f p = above_inf h v f (right_number (inf true) v p)
add_below h (inf false) nan f p = never p
add_below h (inf false) (inf true) f p = never p
add_below h (inf false) (inf false) f p = below_inf h (inf false) f refl
add_below h (inf false) (fin r k c) f p = never p
add_below h (fin t n d) nan f p = never p
add_below h (fin t n d) (inf true) f p = never p
add_below h (fin t n d) (inf false) f p = below_inf h (fin t n d) f refl
add_below h (fin t n d) (fin r k c) f p = finite_below h t r n k d c f p

-- h - a is at most h + b
pub apart : (h a b : Float) → finite h ≡ true → AtLeastZero a → AtLeastZero b → le (h -ᶠ a) (h +ᶠ b) ≡ true
unfolding Ieee.sub
apart h a b f p q = add_below h (neg a) b f (between p q)

-- l - h is at most h - l
pub difference : (l h : Float) → finite l ≡ true → finite h ≡ true → le l h ≡ true → le (l -ᶠ h) (h -ᶠ l) ≡ true
unfolding Ieee.sub
difference l h f g p = le_trans (l -ᶠ h) (l -ᶠ l) (h -ᶠ l) (add_below l (neg h) (neg l) f (le_neg l h p)) (sub_mono l h l f g f p)

same_inf : (s : Bool) (x y : Float) → finite x ≡ true → finite y ≡ true → le (x -ᶠ inf s) (y -ᶠ inf s) ≡ true
unfolding finite Ieee.sub Ieee.add neg is_nan
same_inf s nan y f g = never f
same_inf s (inf t) y f g = never f
same_inf s (fin t m e) nan f g = never g
same_inf s (fin t m e) (inf u) f g = never g
same_inf s (fin t m e) (fin u k c) f g = le_self (inf (not s)) refl

-- x - p is at most y - p, for every number p
pub less : (x y p : Float) → finite x ≡ true → finite y ≡ true → is_nan p ≡ false → le x y ≡ true → le (x -ᶠ p) (y -ᶠ p) ≡ true
unfolding is_nan finite
less x y nan f g n o = never' n
less x y (inf s) f g n o = same_inf s x y f g
less x y (fin s m e) f g n o = sub_mono x y (fin s m e) f g refl o

-- x - a beside y + a, by what is infinite
lowest_of : (y b a : Float) → finite b ≡ true → finite a ≡ true → is_nan y ≡ false → le (inf true +ᶠ b) (y +ᶠ a) ≡ true
unfolding Ieee.add finite
lowest_of y nan a f g n = never f
lowest_of y (inf t) a f g n = never f
lowest_of y (fin t k d) a f g n = bottom (y +ᶠ a) (rw (add_swap y a) (plus_number a y g n))

lowest : (y : Float) {a : Float} → Positive a → is_nan y ≡ false → le (inf true -ᶠ a) (y +ᶠ a) ≡ true
unfolding Ieee.sub neg finite
lowest y (positive k c) n = lowest_of y (fin true (suc k) c) (fin false (suc k) c) refl refl n

highest : {a : Float} → Positive a → le (inf false -ᶠ a) (inf false +ᶠ a) ≡ true
unfolding Ieee.sub Ieee.add neg le
highest (positive k c) = refl

under_top : (s : Bool) (m : ℕ) (e : ℤ) {a : Float} → Positive a → le (fin s m e -ᶠ a) (inf false +ᶠ a) ≡ true
unfolding Ieee.sub Ieee.add neg
under_top s m e (positive k c) = top _ (sum_number s (m * up e * down c) true (suc k * up c * down e) (down e * down c))

both : (s t : Bool) (m n : ℕ) (e d : ℤ) (a : Float) → Positive a → le (fin s m e) (fin t n d) ≡ true → le (fin s m e -ᶠ a) (fin t n d +ᶠ a) ≡ true
unfolding finite
both s t m n e d a q p =
    le_trans (fin s m e -ᶠ a) (fin t n d -ᶠ a) (fin t n d +ᶠ a) (sub_mono (fin s m e) (fin t n d) a refl refl (positive_finite q) p)
    (apart (fin t n d) a a refl (positive_least q) (positive_least q))

-- x - a is at most y + a
pub widen : (x y a : Float) → Positive a → le x y ≡ true → le (x -ᶠ a) (y +ᶠ a) ≡ true
unfolding le
widen nan y a q p = never p
widen (inf true) y a q p = lowest y q (right_number (inf true) y p)
widen (inf false) nan a q p = never p
widen (inf false) (inf true) a q p = never p
widen (inf false) (inf false) a q p = highest q
widen (inf false) (fin t n d) a q p = never p
widen (fin s m e) nan a q p = never p
widen (fin s m e) (inf true) a q p = never p
widen (fin s m e) (inf false) a q p = under_top s m e q
widen (fin s m e) (fin t n d) a q p = both s t m n e d a q p
