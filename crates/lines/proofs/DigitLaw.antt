-- Digits, decimal and hexadecimal. Assumes nothing.
use mathlib.Core.Path.{◌≡◌, refl, sym, ap, ◌∙◌}
use mathlib.Core.Bool.{Bool, true, false}
use mathlib.Core.List.{List, [], ◌∷◌, ◌++◌, append_assoc, append-nil}
use Prim.Native.Nat.{ℕ, zero, suc, ◌+◌, ◌-◌, ◌/◌, ◌%◌, ◌*◌, ◌<◌, ◌≤◌, ◌^◌}
use native.Mathlib.Omega.{arith}
use native.Mathlib.Nat.{pow-suc}
use native.Mathlib.Numerals.{add-one}
use borrow.Author.Tests.{lt-ltb, le-ltb, ltb-true, ltb-false}
use lib.Dec.{ltb}
use lib.ListN.{length, set, take, drop, length-append}
use lib.Seq.{drop-length, length-take-le}
use Rattle.std.specs.Prelude.{Option, Some, None, IfNone, IfSome, unwrap_or}
use Rattle.std.proofs.lemmas.List.{drop-set}
use Rattle.lines.specs.Line.{digit, digits, decimal_in, decimal, Puts}
use Rattle.lines.proofs.PutLaw.{puts_front}

digits_none : (base v : ℕ) → digits base 0 v ≡ []
unfolding digits
digits_none base v = refl

digits_more : (base n v : ℕ) → digits base (suc n) v ≡ digits base n (v / base) ++ (digit (v % base) ∷ [])
unfolding digits
digits_more base n v = refl

pub digits_long : (base n v : ℕ) → length (digits base n v) ≡ n
digits_long base zero v = rw (digits_none base v)
digits_long base (suc n) v =
    rw (digits_more base n v) (length-append (digits base n (v / base)) _ ∙ omega (arith, digits_long base n (v / base)))

-- ---- `put_digits`: the digits from i on stand in the part, v is what is left of the number

pub digits_start : (base n : ℕ) (part : List ℕ) → digits base (length part) n ++ drop (length part) part ≡ digits base (length part) n
digits_start base n part = rw (drop-length part) (append-nil (digits base (length part) n))

pub digits_turn : (base v d i : ℕ) (part : List ℕ) → 0 < i → i ≤ length part → d ≡ digit (v % base)
    → digits base (i - 1) (v / base) ++ drop (i - 1) (set part (i - 1) d) ≡ digits base i v ++ drop i part
digits_turn base v d i part h b e =
    let s : i ≡ i - 1 + 1 = omega arith in
    let more : digits base i v ≡ digits base (i - 1) (v / base) ++ (d ∷ []) =
    ap (λ (k : ℕ). digits base k v) (s ∙ add-one (i - 1)) ∙ rw e (digits_more base (i - 1) v) in
    rw (drop-set part (i - 1) d (omega arith), ← s, more) (sym (append_assoc (digits base (i - 1) (v / base)) (d ∷ []) (drop i part)))

pub no_digits : (base v i : ℕ) → i ≤ 0 → digits base i v ≡ []
no_digits base v i h = let z : i ≡ 0 = omega arith in rw z (digits_none base v)

pub ruleset digit_steps = (digits_start, digits_turn, no_digits)

-- ---- how many decimal digits

module _ (n v : ℕ) where
  decimal_last : v < 10 → decimal_in (suc n) v ≡ digit v ∷ []
  unfolding decimal_in
  decimal_last h = rw (lt-ltb v 10 h)

  decimal_more : 10 ≤ v → decimal_in (suc n) v ≡ decimal_in n (v / 10) ++ (digit (v % 10) ∷ [])
  unfolding decimal_in
  decimal_more h = rw (le-ltb v 10 h)

decimal_none : (v : ℕ) → decimal_in 0 v ≡ []
unfolding decimal_in
decimal_none v = refl

-- a decimal is the digits in base 10
pub decimal_is : (n v : ℕ) → decimal_in n v ≡ digits 10 (length (decimal_in n v)) v
decimal_is zero v = rw (decimal_none v) (sym (digits_none 10 v))
decimal_is (suc n) v = go (ltb v 10) refl (decimal_is n (v / 10))
  where
    go : (b : Bool) → ltb v 10 ≡ b → decimal_in n (v / 10) ≡ digits 10 (length (decimal_in n (v / 10))) (v / 10)
        → decimal_in (suc n) v ≡ digits 10 (length (decimal_in (suc n) v)) v
    go true e ih =
        let h : v < 10 = ltb-true v 10 e in
        let m : v % 10 ≡ v = omega arith in
        rw (decimal_last n v h) (sym (digits_more 10 0 v ∙ rw (digits_none 10 (v / 10), m)))
    go false e ih =
        let h : 10 ≤ v = ltb-false v 10 e in
        let l : length (decimal_in n (v / 10) ++ (digit (v % 10) ∷ [])) ≡ suc (length (decimal_in n (v / 10))) = length-append (decimal_in n (v / 10)) _ ∙ omega arith in
        rw (decimal_more n v h, l) (sym (digits_more 10 (length (decimal_in n (v / 10))) v ∙ ap (λ (l : List ℕ). l ++ (digit (v % 10) ∷ [])) (sym ih)))

pub decimal_short : (n v : ℕ) → length (decimal_in n v) ≤ n
decimal_short zero v = rw (decimal_none v) (omega arith)
decimal_short (suc n) v = go (ltb v 10) refl (decimal_short n (v / 10))
  where
    go : (b : Bool) → ltb v 10 ≡ b → length (decimal_in n (v / 10)) ≤ n → length (decimal_in (suc n) v) ≤ suc n
    go true e ih = rw (decimal_last n v (ltb-true v 10 e)) (omega arith)
    go false e ih = rw (decimal_more n v (ltb-false v 10 e)) (simp length-append (omega arith))

-- as many digits as a decimal has, put at the front
pub decimal_puts : (k n : ℕ) (part lent : List ℕ) → k ≡ length (decimal n) → k ≤ length part → lent ≡ digits 10 (length (take k part)) n
    → Puts (decimal n) part (lent ++ drop k part) k
decimal_puts k n part lent e h d =
    let is : lent ≡ decimal n = d ∙ rw (length-take-le k part h, e) (sym (decimal_is 10 n)) in
    rw is (puts_front (decimal n) part k e)

-- a number between two powers of ten
decimal_width : (k n v : ℕ) → k < n → 10 ^ k ≤ v → v < 10 * 10 ^ k → length (decimal_in n v) ≡ k + 1
decimal_width zero zero v h low high = absurd (omega arith)
decimal_width (suc k) zero v h low high = absurd (omega arith)
decimal_width zero (suc n) v h low high = rw (decimal_last n v (omega arith)) refl
decimal_width (suc k) (suc n) v h low high =
    let ten : 10 ^ suc k ≡ 10 ^ k * 10 = pow-suc 10 k in
    let ih : length (decimal_in n (v / 10)) ≡ k + 1 = decimal_width k n (v / 10) (omega arith) (omega arith) (omega arith) in
    rw (decimal_more n v (omega arith)) (length-append (decimal_in n (v / 10)) _ ∙ omega arith)

-- the logarithm says how many; 0, which has none, has one digit
pub logarithm_width : (n : ℕ) (o : Option ℕ) → IfNone o (n ≡ 0) → IfSome o (λ k. 10 ^ k ≤ n) → IfSome o (λ k. n < 10 * 10 ^ k) → IfSome o (λ k. k < 10)
    → unwrap_or o 0 + 1 ≡ length (decimal n)
logarithm_width n None none low high few = rw (decimal_last 9 n (omega (arith, none))) refl
logarithm_width n (Some k) none low high few = sym (decimal_width k 10 n few low high)
