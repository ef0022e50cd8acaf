-- x - x is +0 for a finite x and NaN otherwise; a sum of such numbers equals 0 exactly where each x is finite. Assumes nothing.
use mathlib.Core.Path.{◌≡◌, refl, sym, ◌∙◌}
use mathlib.Core.Bool.{Bool, true, false, not, ◌&&◌}
use Prim.Native.Nat.{ℕ, ◌-◌, ◌*◌, ◌<◌}
use native.Mathlib.Nat.{zero-mul, mul-pos}
use native.Mathlib.Omega.{arith}
use borrow.Author.Tests.{le-ltb}
use lib.Ieee as Ieee
use lib.Ieee.{Float, nan, inf, fin, binary32, of_bits, up, down, neg, sum, round, eq}
use lib.Ieee.Fits.{down_pos}
use lib.Ieee.Scale.{round_same}
use Rattle.arithmetic.specs.Constants.{◌+ᶠ◌, ◌-ᶠ◌, n0}
use Rattle.arithmetic.specs.Order.{finite}

-- +0 where the test holds, else NaN
zero_where : Bool → Float
zero_where true = n0
zero_where false = nan

zero_rounds : round binary32 false 0 1 ≡ n0
unfolding round of_bits
zero_rounds = refl

zero_over : (c : ℕ) → 0 < c → round binary32 false 0 c ≡ n0
zero_over c h = round_same binary32 false 0 c 0 1 h (omega arith) (zero-mul 1 ∙ sym (zero-mul c)) ∙ zero_rounds

same_less : (a : ℕ) → a - a ≡ 0
same_less a = omega arith

sum_less : (s : Bool) (a c : ℕ) → 0 < c → sum binary32 s a (not s) a c ≡ n0
unfolding sum
sum_less true a c h = rw (le-ltb a a (omega arith), same_less a) (zero_over c h)
sum_less false a c h = rw (le-ltb a a (omega arith), same_less a) (zero_over c h)

less_self : (x : Float) → x -ᶠ x ≡ zero_where (finite x)
unfolding Ieee.sub Ieee.add neg finite zero_where
less_self nan = refl
less_self (inf true) = refl
less_self (inf false) = refl
less_self (fin s m e) = sum_less s (m * up e * down e) (down e * down e) (mul-pos (down_pos e) (down_pos e))

zero_twice : n0 +ᶠ n0 ≡ n0
unfolding Ieee.add of_bits
zero_twice = refl

number_nan : (x : Float) → x +ᶠ nan ≡ nan
unfolding Ieee.add
number_nan nan = refl
number_nan (inf s) = refl
number_nan (fin s m e) = refl

nan_number : (x : Float) → nan +ᶠ x ≡ nan
unfolding Ieee.add
nan_number x = refl

plus : (p q : Bool) → zero_where p +ᶠ zero_where q ≡ zero_where (p && q)
unfolding zero_where
plus true true = zero_twice
plus true false = number_nan n0
plus false q = nan_number (zero_where q)

is_zero : (p : Bool) → eq (zero_where p) n0 ≡ p
unfolding zero_where eq of_bits
is_zero true = refl
is_zero false = refl

-- the same conjunction, grouped as the code adds and as the definition reads
grouped : (a b c d e f g h i j : Bool) →
    ((a && b) && (c && d)) && ((e && f) && (g && h)) && (i && j) ≡ a && b && c && (d && e && f && g && h && i && j)
grouped false b c d e f g h i j = refl
grouped true false c d e f g h i j = refl
grouped true true false d e f g h i j = refl
grouped true true true false e f g h i j = refl
grouped true true true true false f g h i j = refl
grouped true true true true true false g h i j = refl
grouped true true true true true true false h i j = refl
grouped true true true true true true true false i j = refl
grouped true true true true true true true true i j = refl

pub all_zero : (a b c d e f g h i j : Float) →
    eq (((a -ᶠ a) +ᶠ (b -ᶠ b)) +ᶠ ((c -ᶠ c) +ᶠ (d -ᶠ d)) +ᶠ (((e -ᶠ e) +ᶠ (f -ᶠ f)) +ᶠ ((g -ᶠ g) +ᶠ (h -ᶠ h))) +ᶠ ((i -ᶠ i) +ᶠ (j -ᶠ j))) n0
    ≡ finite a && finite b && finite c && (finite d && finite e && finite f && finite g && finite h && finite i && finite j)
all_zero a b c d e f g h i j =
    rw (less_self a, less_self b, less_self c, less_self d, less_self e, less_self f, less_self g, less_self h, less_self i, less_self j)
    (rw (plus (finite a) (finite b), plus (finite c) (finite d), plus (finite e) (finite f), plus (finite g) (finite h), plus (finite i) (finite j))
    (rw (plus (finite a && finite b) (finite c && finite d), plus (finite e && finite f) (finite g && finite h))
    (rw (plus, plus, is_zero)
    (grouped (finite a) (finite b) (finite c) (finite d) (finite e) (finite f) (finite g) (finite h) (finite i) (finite j)))))
