-- The law of fields that carry a flip, by induction over the list of fields: turning a record's bytes flips its values. Assumes nothing.
use mathlib.Core.Path.{◌≡◌, refl, sym, ap, ◌∙◌}
use mathlib.Core.Bool.{Bool, true, false, cond, not, ◌||◌}
use mathlib.Core.List.{List, [], ◌∷◌, ◌++◌, append_assoc}
use Prim.Native.Nat.{ℕ, suc, ◌+◌, ◌-◌, ◌*◌, ◌/◌, ◌%◌, ◌<◌, ◌≤◌, ◌^◌}
use native.Mathlib.Omega.{arith}
use native.Mathlib.Nat.{mod-lt}
use lib.Arith.{mod-mul}
use borrow.Author.Tests.{eqb-true}
use lib.Dec.{T, eqb, lit<}
use lib.ListN.{length, take, drop, replicate, length-append, length-drop}
use lib.Seq.{take_at, drop_at, length-take-le}
use Rattle.fields.specs.Bytes.{number_at, bytes_of}
use Rattle.fields.specs.Fields.{Field, stands, size_of, values_at, body_of, number_fields}
use Rattle.fields.proofs.NumberLaw.{bytes_long, number_back, drop_bytes}
use Rattle.fields.proofs.Window.{same_map}
use Rattle.records.specs.Call.{call_fields}
use Rattle.records.proofs.CallLaw.{fields_are}
use Rattle.editions.specs.Edition.{is_down, flip, flips, flips_standing}
use Rattle.editions.specs.Code.Steps.{turned_field, turned}

-- ---- a number

-- flipping twice is nothing
pub flip_twice : (v : ℕ) → v < 2 ^ 32 → flip (flip v) ≡ v
flip_twice v h = omega arith

flip_low : (v : ℕ) → flip (v % 2 ^ 32) ≡ flip v
flip_low v = omega arith

-- the number that was written is the value's low 32 bits
number_low : (v : ℕ) (rest : List ℕ) → number_at 4 (bytes_of 4 v ++ rest) ≡ v % 2 ^ 32
unfolding number_at bytes_of
number_low v rest =
    let a : v % 2 ^ 32 ≡ v / 256 % 2 ^ 24 * 256 + v % 256 = mod-mul v {m = 2 ^ 24} {c = 256} (lit< tt) (lit< tt) in
    let b : v / 256 % 2 ^ 24 ≡ v / 256 / 256 % 2 ^ 16 * 256 + v / 256 % 256 = mod-mul (v / 256) {m = 2 ^ 16} {c = 256} (lit< tt) (lit< tt) in
    let c : v / 256 / 256 % 2 ^ 16 ≡ v / 256 / 256 / 256 % 256 * 256 + v / 256 / 256 % 256 = mod-mul (v / 256 / 256) {m = 256} {c = 256} (lit< tt) (lit< tt) in
    omega (arith, a, b, c)

-- the number that was written, flipped
flip_written : (v : ℕ) (rest : List ℕ) → flip (number_at 4 (bytes_of 4 v ++ rest)) ≡ flip v
flip_written v rest = ap flip (number_low v rest) ∙ flip_low v

flip_back : (v : ℕ) (rest : List ℕ) → number_at 4 (bytes_of 4 (flip v) ++ rest) ≡ flip v
flip_back v rest = number_back 4 (flip v) rest (mod-lt (v + 2 ^ 31) (lit< tt))

number_front : (b : ℕ) (s rest : List ℕ) → b ≤ length s → number_at b (take b s ++ rest) ≡ number_at b s
number_front b s rest h = same_map b b (take b s ++ rest) s (take_at (take b s) rest b (length-take-le b s h)) (omega arith)

drop_front : (b : ℕ) (s rest : List ℕ) → b ≤ length s → drop b (take b s ++ rest) ≡ rest
drop_front b s rest h = drop_at (take b s) rest b (length-take-le b s h)

-- ---- the fields with down positive are numbers

unfoldable pub Wide : ℕ → List Field → Type 0
Wide n [] = Unit {0}
Wide n (f ∷ fs) = T (not (is_down n) || eqb f.bytes 4) × Wide (suc n) fs

any_true : (b : Bool) → T (b || true)
any_true true = tt
any_true false = tt

numbers_wide : (n : ℕ) (ds : List ℕ) → Wide n (number_fields ds)
unfolding Wide number_fields
numbers_wide n [] = tt
numbers_wide n (d ∷ ds) = (any_true (not (is_down n)), numbers_wide (suc n) ds)

pub call_wide : Wide 0 call_fields
unfolding Wide
call_wide = rw fields_are (tt, (tt, numbers_wide 2 (replicate 20 0)))

pub four : (b : ℕ) → T (eqb b 4) → b ≡ 4
four b t = go (eqb b 4) refl t
  where
    go : (c : Bool) → eqb b 4 ≡ c → T c → b ≡ 4
    go true e t = eqb-true b 4 e
    go false e t = absurd t

-- ---- reading turned bytes gives the values flipped where they stand

pub values_turned : (fs : List Field) (n m : ℕ) (s : List ℕ) → Wide n fs → size_of fs m ≤ length s
    → values_at fs m (turned fs n m s) ≡ flips_standing n m (values_at fs m s)
unfolding values_at turned flips_standing size_of Wide
values_turned [] n m s w h = refl
values_turned (f ∷ fs) n m s w h =
    go (stands m) (is_down n) refl refl w.0 (λ (r : List ℕ) (k : size_of fs (m / 2) ≤ length r). values_turned fs (suc n) (m / 2) r w.1 k) h
  where
    go : (b d : Bool) → stands m ≡ b → is_down n ≡ d → T (not d || eqb f.bytes 4)
        → ((r : List ℕ) → size_of fs (m / 2) ≤ length r → values_at fs (m / 2) (turned fs (suc n) (m / 2) r) ≡ flips_standing (suc n) (m / 2) (values_at fs (m / 2) r))
        → cond b f.bytes 0 + size_of fs (m / 2) ≤ length s
        → cond b
        (number_at f.bytes (cond b
        (cond d (bytes_of 4 (flip (number_at 4 s))) (take f.bytes s) ++ turned fs (suc n) (m / 2) (drop f.bytes s))
        (turned fs (suc n) (m / 2) s))
        ∷ values_at fs (m / 2) (drop f.bytes (cond b
        (cond d (bytes_of 4 (flip (number_at 4 s))) (take f.bytes s) ++ turned fs (suc n) (m / 2) (drop f.bytes s))
        (turned fs (suc n) (m / 2) s))))
        (f.missing
        ∷ values_at fs (m / 2) (cond b
        (cond d (bytes_of 4 (flip (number_at 4 s))) (take f.bytes s) ++ turned fs (suc n) (m / 2) (drop f.bytes s))
        (turned fs (suc n) (m / 2) s)))
        ≡ flips_standing n m (cond b (number_at f.bytes s ∷ values_at fs (m / 2) (drop f.bytes s)) (f.missing ∷ values_at fs (m / 2) s))
    go true true eb ed t ih l =
        let e : f.bytes ≡ 4 = four f.bytes t in
        let tail = turned fs (suc n) (m / 2) (drop 4 s) in
        rw (eb, ed, e, flip_back (number_at 4 s) tail, drop_bytes 4 (flip (number_at 4 s)) tail, ih (drop 4 s) (simp length-drop (omega arith)))
    go true false eb ed t ih l =
        let b = f.bytes in
        let tail = turned fs (suc n) (m / 2) (drop b s) in
        rw (eb, ed, number_front b s tail (omega arith), drop_front b s tail (omega arith), ih (drop b s) (simp length-drop (omega arith)))
    go false d eb ed t ih l = rw (eb, ih s (omega arith))

-- ---- turning what was written is writing the values flipped

pub turned_body : (fs : List Field) (n m : ℕ) (vs rest : List ℕ) → Wide n fs → length vs ≡ length fs
    → turned fs n m (body_of fs m vs ++ rest) ≡ body_of fs m (flips n vs) ++ rest
unfolding turned body_of flips Wide
turned_body [] n m [] rest w l = refl
turned_body [] n m (v ∷ vs) rest w l = absurd (omega arith)
turned_body (f ∷ fs) n m [] rest w l = absurd (omega arith)
turned_body (f ∷ fs) n m (v ∷ vs) rest w l = go (stands m) (is_down n) w.0 (turned_body fs (suc n) (m / 2) vs rest w.1 (omega arith))
  where
    go : (b d : Bool) → T (not d || eqb f.bytes 4) → turned fs (suc n) (m / 2) (body_of fs (m / 2) vs ++ rest) ≡ body_of fs (m / 2) (flips (suc n) vs) ++ rest
        → cond b
        (cond d (bytes_of 4 (flip (number_at 4 ((cond b (bytes_of f.bytes v) [] ++ body_of fs (m / 2) vs) ++ rest))))
        (take f.bytes ((cond b (bytes_of f.bytes v) [] ++ body_of fs (m / 2) vs) ++ rest))
        ++ turned fs (suc n) (m / 2) (drop f.bytes ((cond b (bytes_of f.bytes v) [] ++ body_of fs (m / 2) vs) ++ rest)))
        (turned fs (suc n) (m / 2) ((cond b (bytes_of f.bytes v) [] ++ body_of fs (m / 2) vs) ++ rest))
        ≡ (cond b (bytes_of f.bytes (cond d (flip v) v)) [] ++ body_of fs (m / 2) (flips (suc n) vs)) ++ rest
    go true true t ih =
        let e : f.bytes ≡ 4 = four f.bytes t in
        let body = body_of fs (m / 2) vs in
        rw (e, append_assoc (bytes_of 4 v) body rest, flip_written v (body ++ rest), drop_bytes 4 v (body ++ rest), ih)
        (sym (append_assoc (bytes_of 4 (flip v)) (body_of fs (m / 2) (flips (suc n) vs)) rest))
    go true false t ih =
        let b = f.bytes in
        let body = body_of fs (m / 2) vs in
        rw (append_assoc (bytes_of b v) body rest, take_at (bytes_of b v) (body ++ rest) b (bytes_long b v), drop_bytes b v (body ++ rest), ih)
        (sym (append_assoc (bytes_of b v) (body_of fs (m / 2) (flips (suc n) vs)) rest))
    go false d t ih = ih

-- ---- lengths

pub flips_long : (n : ℕ) (vs : List ℕ) → length (flips n vs) ≡ length vs
unfolding flips
flips_long n [] = refl
flips_long n (v ∷ vs) = ap suc (flips_long (suc n) vs)

-- the bytes of a field
pub field_long : (n b : ℕ) (s : List ℕ) → T (not (is_down n) || eqb b 4) → b ≤ length s → length (turned_field n b s) ≡ b
field_long n b s t h = go (is_down n) t
  where
    go : (d : Bool) → T (not d || eqb b 4) → length (cond d (bytes_of 4 (flip (number_at 4 s))) (take b s)) ≡ b
    go true t = bytes_long 4 (flip (number_at 4 s)) ∙ sym (four b t)
    go false t = length-take-le b s h

pub turned_long : (fs : List Field) (n m : ℕ) (s : List ℕ) → Wide n fs → size_of fs m ≤ length s → length (turned fs n m s) ≡ length s
unfolding turned size_of Wide
turned_long [] n m s w h = refl
turned_long (f ∷ fs) n m s w h = go (stands m) (λ (r : List ℕ) (k : size_of fs (m / 2) ≤ length r). turned_long fs (suc n) (m / 2) r w.1 k) h
  where
    go : (b : Bool) → ((r : List ℕ) → size_of fs (m / 2) ≤ length r → length (turned fs (suc n) (m / 2) r) ≡ length r)
        → cond b f.bytes 0 + size_of fs (m / 2) ≤ length s
        → length (cond b (turned_field n f.bytes s ++ turned fs (suc n) (m / 2) (drop f.bytes s)) (turned fs (suc n) (m / 2) s)) ≡ length s
    go true ih l =
        let rest : length (drop f.bytes s) ≡ length s - f.bytes = length-drop f.bytes s in
        length-append (turned_field n f.bytes s) (turned fs (suc n) (m / 2) (drop f.bytes s))
        ∙ omega (arith, field_long n f.bytes s w.0 (omega arith), ih (drop f.bytes s) (omega (arith, rest)), rest)
    go false ih l = ih s (omega arith)
