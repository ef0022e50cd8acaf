-- The sign bit of a number: what is left when it is cleared, and whether it stands. Assumes nothing.
-- 0x80000000 is 2 ^ 31, 0x100000000 is 2 ^ 32.
use mathlib.Core.Path.{◌≡◌, refl, sym, ap, ◌∙◌, subst}
use mathlib.Core.Bool.{Bool, true, false, cond, not}
use Prim.Native.Nat.{ℕ, zero, suc, ◌+◌, ◌*◌, ◌/◌, ◌%◌, ◌<◌, ◌≤◌}
use native.Mathlib.Omega.{arith}
use lib.Dec.{T, leb, leb→le, nleb→lt}
use lib.IntN.{ℤ}
use borrow.Author.Tests.{le-leb, lt-leb}
use lib.Ieee.{Float, nan, inf, fin, binary32, fits, is_nan, neg, of_bits, to_bits}
use lib.Ieee.Bits.{of_bits-to_bits, to_bits-lt}
use Rattle.std.specs.Float.{is_sign_negative}
use Rattle.arithmetic.specs.Order.{size, negative}
use Rattle.arithmetic.proofs.Bounds.{never, never'}

any_sign : (s t : Bool) (m : ℕ) (e : ℤ) → T (fits binary32 (fin s m e)) → T (fits binary32 (fin t m e))
unfolding fits
any_sign s t zero e h = h
any_sign s t (suc m) e h = h

regroup : (c a b : ℕ) → c + a + b ≡ c + (0 + a + b)
regroup c a b = omega arith

sign_apart : (s : Bool) (m : ℕ) (e : ℤ) → to_bits binary32 (fin s m e) ≡ cond s 0x80000000 0 + to_bits binary32 (fin false m e)
unfolding to_bits
sign_apart s m e = regroup (cond s 0x80000000 0) _ _

half : (x y : ℕ) → y ≡ 0x80000000 + x → y < 0x100000000 → x < 0x80000000
half x y e h = omega arith

below_sign : (s : Bool) (m : ℕ) (e : ℤ) → T (fits binary32 (fin s m e)) → to_bits binary32 (fin false m e) < 0x80000000
below_sign s m e h =
    half (to_bits binary32 (fin false m e)) (to_bits binary32 (fin true m e)) (sign_apart true m e)
    (to_bits-lt binary32 (fin true m e) (any_sign s true m e h))

cleared : (s : Bool) (x : ℕ) → x < 0x80000000 → (cond s 0x80000000 0 + x) % 0x80000000 ≡ x
cleared true x h = omega arith
cleared false x h = omega arith

stands : (s : Bool) (x : ℕ) → x < 0x80000000 → leb 0x80000000 (cond s 0x80000000 0 + x) ≡ s
stands true x h = le-leb 0x80000000 (0x80000000 + x) (omega arith)
stands false x h = lt-leb 0x80000000 (0 + x) (omega arith)

infinite : (s : Bool) → of_bits binary32 (to_bits binary32 (inf s) % 0x80000000) ≡ inf false
unfolding of_bits to_bits
infinite true = refl
infinite false = refl

-- the bits without the sign bit are the size's
pub size_bits : (v : Float) → T (fits binary32 v) → is_nan v ≡ false → of_bits binary32 (to_bits binary32 v % 0x80000000) ≡ size v
unfolding size is_nan
size_bits nan h n = never' n
size_bits (inf s) h n = infinite s
size_bits (fin s m e) h n =
    ap (λ (b : ℕ). of_bits binary32 (b % 0x80000000)) (sign_apart s m e)
    ∙ ap (of_bits binary32) (cleared s (to_bits binary32 (fin false m e)) (below_sign s m e h))
    ∙ of_bits-to_bits binary32 (fin false m e) (any_sign s false m e h)

infinite_sign : (s : Bool) → leb 0x80000000 (to_bits binary32 (inf s)) ≡ s
unfolding to_bits
infinite_sign true = refl
infinite_sign false = refl

pub sign_bit : (v : Float) → T (fits binary32 v) → is_nan v ≡ false → leb 0x80000000 (to_bits binary32 v) ≡ negative v
unfolding negative is_nan
sign_bit nan h n = never' n
sign_bit (inf s) h n = infinite_sign s
sign_bit (fin s m e) h n = ap (leb 0x80000000) (sign_apart s m e) ∙ stands s (to_bits binary32 (fin false m e)) (below_sign s m e h)

-- the library's test for the sign is the definition's
pub negative_is : (v : Float) → is_sign_negative v ≡ negative v
unfolding is_sign_negative negative
negative_is nan = refl
negative_is (inf s) = refl
negative_is (fin s m e) = refl

pub nan_unsigned : (v : Float) → is_nan v ≡ true → negative v ≡ false
unfolding negative is_nan
nan_unsigned nan e = refl
nan_unsigned (inf s) e = never e
nan_unsigned (fin s m e) h = never h

pub nan_size : (v : Float) → is_nan v ≡ true → size v ≡ v
unfolding size is_nan
nan_size nan e = refl
nan_size (inf s) e = never e
nan_size (fin s m e) h = never h

-- the pattern that the language gives to its NaN
pub nan_pattern : of_bits binary32 0x7fc00000 ≡ nan
unfolding of_bits
nan_pattern = refl

pub size_number : (v : Float) → is_nan v ≡ false → is_nan (size v) ≡ false
unfolding size is_nan
size_number nan n = n
size_number (inf s) n = refl
size_number (fin s m e) n = refl

pub is_number : (v : Float) → is_nan v ≡ false → T (not (is_nan v))
is_number v n = subst (λ (b : Bool). T (not b)) (sym n) tt

-- ---- a sign bit added to a number's bits, modulo 2 ^ 32

sign_part : (x : ℕ) → x < 0x100000000 → x / 0x80000000 * 0x80000000 ≡ cond (leb 0x80000000 x) 0x80000000 0
sign_part x h = go (leb 0x80000000 x) (leb→le 0x80000000 x) (nleb→lt 0x80000000 x)
  where
    go : (b : Bool) → (T b → 0x80000000 ≤ x) → (T (not b) → x < 0x80000000) → x / 0x80000000 * 0x80000000 ≡ cond b 0x80000000 0
    go true p q = let l = p tt in omega arith
    go false p q = let l = q tt in omega arith

turned_over : (s : Bool) (x : ℕ) → x < 0x80000000 → (cond s 0x80000000 0 + x + 0x80000000) % 0x100000000 ≡ cond (not s) 0x80000000 0 + x
turned_over true x h = omega arith
turned_over false x h = omega arith

infinite_neg : (s : Bool) → of_bits binary32 ((to_bits binary32 (inf s) + 0x80000000) % 0x100000000) ≡ inf (not s)
unfolding of_bits to_bits
infinite_neg true = refl
infinite_neg false = refl

flipped : (a : Float) → T (fits binary32 a) → is_nan a ≡ false → of_bits binary32 ((to_bits binary32 a + 0x80000000) % 0x100000000) ≡ neg a
unfolding is_nan neg
flipped nan h n = never' n
flipped (inf s) h n = infinite_neg s
flipped (fin s m e) h n =
    ap (λ (b : ℕ). of_bits binary32 ((b + 0x80000000) % 0x100000000)) (sign_apart s m e)
    ∙ ap (of_bits binary32) (turned_over s (to_bits binary32 (fin false m e)) (below_sign s m e h) ∙ sym (sign_apart (not s) m e))
    ∙ of_bits-to_bits binary32 (fin (not s) m e) (any_sign s (not s) m e h)

kept : (a : Float) → T (fits binary32 a) → of_bits binary32 ((to_bits binary32 a + 0) % 0x100000000) ≡ a
kept a h =
    let l = to_bits-lt binary32 a h in
    let e : (to_bits binary32 a + 0) % 0x100000000 ≡ to_bits binary32 a = omega arith in
    ap (of_bits binary32) e ∙ of_bits-to_bits binary32 a h

pub signed_bits : (v a : Float) → T (fits binary32 v) → T (fits binary32 a) → is_nan v ≡ false → is_nan a ≡ false →
    of_bits binary32 ((to_bits binary32 a + to_bits binary32 v / 0x80000000 * 0x80000000) % 0x100000000) ≡ cond (negative v) (neg a) a
signed_bits v a h k n p =
    ap (λ (x : ℕ). of_bits binary32 ((to_bits binary32 a + x) % 0x100000000))
    (sign_part (to_bits binary32 v) (to_bits-lt binary32 v h) ∙ ap (λ (b : Bool). cond b 0x80000000 0) (sign_bit v h n))
    ∙ go (negative v)
  where
    go : (b : Bool) → of_bits binary32 ((to_bits binary32 a + cond b 0x80000000 0) % 0x100000000) ≡ cond b (neg a) a
    go true = flipped a k p
    go false = kept a k

pub signed_number : (b : Bool) (a : Float) → is_nan a ≡ false → is_nan (cond b (neg a) a) ≡ false
unfolding is_nan neg
signed_number b nan n = never' n
signed_number true (inf s) n = refl
signed_number false (inf s) n = refl
signed_number true (fin s m e) n = refl
signed_number false (fin s m e) n = refl

pub size_unsigned : (v : Float) → negative (size v) ≡ false
unfolding size negative
size_unsigned nan = refl
size_unsigned (inf s) = refl
size_unsigned (fin s m e) = refl

pub size_held : (v : Float) → T (fits binary32 v) → T (fits binary32 (size v))
unfolding size fits
size_held nan h = h
size_held (inf s) h = h
size_held (fin s m e) h = any_sign s false m e h

-- a number without a sign has bits below the sign bit
pub unsigned_bits : (v : Float) → T (fits binary32 v) → is_nan v ≡ false → negative v ≡ false → to_bits binary32 v < 0x80000000
unsigned_bits v h n p = nleb→lt 0x80000000 (to_bits binary32 v) (subst (λ (b : Bool). T (not b)) (sym (sign_bit v h n ∙ p)) tt)
