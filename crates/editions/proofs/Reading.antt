-- Each outcome of a reader by editions. Assumes nothing.
use mathlib.Core.Path.{◌≡◌, refl, sym, ap, subst, ◌∙◌}
use mathlib.Core.Bool.{Bool, true, false, cond, ◌&&◌}
use mathlib.Core.List.{List, ◌++◌}
use Prim.Native.Nat.{ℕ, ◌+◌, ◌-◌, ◌/◌, ◌%◌, ◌<◌, ◌≤◌, ◌^◌}
use native.Mathlib.Omega.{arith}
use borrow.Author.Tests.{le-leb, leb-true, eq-eqb, eqb-true, ltb-true}
use lib.Dec.{T, eqb}
use lib.ListN.{length, take, drop, get_or, length-append, length-drop}
use lib.Seq.{drop-drop, take_at, drop_at, length-take-le}
use Rattle.fields.specs.Bytes.{number_at, bytes_of, has_bytes}
use Rattle.fields.specs.Fields.{stands, bit, named, size_of, values_at}
use Rattle.fields.specs.Numbers.{floats_of}
use Rattle.fields.proofs.NumberLaw.{bytes_long, number_back, drop_bytes}
use Rattle.fields.proofs.Window.{same_values}
use Rattle.records.specs.declared.call.Call.{Call}
use Rattle.records.specs.declared.call.ReadCall.{ReadCall}
use Rattle.std.specs.Prelude.{Result, Ok, Err}
use Rattle.std.specs.Result.{result_map_both}
use Rattle.std.proofs.lemmas.Bool.{not-true}
use Rattle.refusals.specs.declared.Refusal.{Refusal}
use Rattle.refusals.specs.declared.Refusal.TheVariants as refusal
use Rattle.records.specs.Call.{call_fields, complete, unknown, regime_of, call_at, read_call}
use Rattle.records.proofs.CallLaw.{fields_long}
use Rattle.editions.specs.declared.Edition.{Edition}
use Rattle.editions.specs.declared.Edition.TheVariants.{First, Second}
use Rattle.editions.specs.Edition.{mark, is_of, fields_of, flips_standing, read_as}
use Rattle.editions.specs.Code.Steps.{turned}
use Rattle.editions.proofs.FlipLaw.{call_wide, values_turned, turned_long}

-- ---- the map

first_of : (a b c : Bool) → (a && b && c) ≡ true → a ≡ true
first_of true b c e = refl
first_of false b c e = absurd (subst T (sym e) tt)

-- a complete map names only fields
pub below_mark : (m : ℕ) → complete m ≡ true → m < 2 ^ 22
unfolding complete
below_mark m e = ltb-true m (2 ^ 22) (rw fields_long at (first_of (named call_fields m) (stands m) (eqb (m / 2 ^ 9 % 2) (m / 2 ^ 10 % 2)) e))

module _ (m : ℕ) (h : m < 2 ^ 22) where
  pub marked : bit 22 (mark + m) ≡ true
  marked = eq-eqb ((2 ^ 22 + m) / 2 ^ 22 % 2) 1 (omega arith)

  pub without : mark + m - mark ≡ m
  without = omega arith

-- ---- outcomes before the fields

pub cut : (e : Edition) (s : List ℕ) (at : ℕ) → has_bytes s at 4 ≡ false → Err refusal.TooFewBytes ≡ read_as e s at
unfolding read_as
cut e s at h = rw h

-- map is what was read as the map, in t, and m what is left of it without bit 22
module _ (s : List ℕ) (at : ℕ) (h : has_bytes s at 4 ≡ true) (t : List ℕ) (et : t ≡ drop at s) (map : ℕ) (em : map ≡ number_at 4 t) (m : ℕ) (ef : m ≡ fields_of map) where
  is_map : number_at 4 (drop at s) ≡ map
  is_map = ap (number_at 4) (sym et) ∙ sym em

  pub incomplete : (e : Edition) → complete m ≡ false → Err refusal.UnknownMap ≡ read_as e s at
  unfolding read_as
  incomplete e q = rw (h, is_map, ← ef, q)

  module _ (q : complete m ≡ true) where
    pub other_edition : (e : Edition) → is_of e map ≡ false → Err refusal.OtherEdition ≡ read_as e s at
    unfolding read_as
    other_edition e o = rw (h, is_map, ← ef, q, o)

    -- the first edition is read by the call reader
    pub first_is : is_of First map ≡ true → read_call s at ≡ read_as First s at
    unfolding read_as read_call
    first_is o =
        let unmarked : bit 22 map ≡ false = not-true (bit 22 map) o in
        let same : m ≡ map = ef ∙ rw unmarked in
        let q' : complete map ≡ true = rw same at q in
        rw (is_map, ← ef, same, h, q', o)

    pub second_map : is_of Second map ≡ true → number_at 4 (drop at s) ≡ mark + m
    second_map o =
        let stood : map / 2 ^ 22 % 2 ≡ 1 = eqb-true (map / 2 ^ 22 % 2) 1 o in
        let left : m ≡ map - 2 ^ 22 = ef ∙ rw o in
        is_map ∙ omega arith

-- ---- the second edition's fields

-- a reader's answer with another place
abbrev pub placed : ℕ → Result ReadCall Refusal → Result ReadCall Refusal
placed n a = result_map_both (λ r. record { call = r.call; next = n }) (λ e. e) a

module _ (s : List ℕ) (at m : ℕ) (h : has_bytes s at 4 ≡ true) (e : number_at 4 (drop at s) ≡ mark + m) (q : complete m ≡ true) where
  pub short : has_bytes s at (4 + size_of call_fields m) ≡ false → Err refusal.TooFewBytes ≡ read_as Second s at
  unfolding read_as
  short k = rw (h, e, marked m (below_mark m q), without m (below_mark m q), q, k)

  -- p begins with the record, and the code turns it into t
  module _ (l : has_bytes s at (4 + size_of call_fields m) ≡ true) (p : List ℕ) (alike : take (4 + size_of call_fields m) p ≡ take (4 + size_of call_fields m) (drop at s))
      (room : 4 + size_of call_fields m ≤ length p) where
    abbrev Turned : List ℕ
    Turned = bytes_of 4 m ++ turned call_fields 0 m (drop 4 p)

    rest_room : size_of call_fields m ≤ length (drop 4 p)
    rest_room = simp length-drop (omega arith)

    map_back : number_at 4 Turned ≡ m
    map_back = number_back 4 m (turned call_fields 0 m (drop 4 p)) (omega (arith, below_mark m q))

    values_back : values_at call_fields m (drop 4 Turned) ≡ flips_standing 0 m (values_at call_fields m (drop (at + 4) s))
    values_back =
        rw (drop_bytes 4 m (turned call_fields 0 m (drop 4 p)))
        (values_turned call_fields 0 m (drop 4 p) call_wide rest_room
        ∙ ap (flips_standing 0 m) (same_values 4 (4 + size_of call_fields m) p (drop at s) alike (omega arith) call_fields m (omega arith)
        ∙ ap (values_at call_fields m) (drop-drop 4 at s)))

    long_is : length Turned ≡ length p
    long_is =
        length-append (bytes_of 4 m) (turned call_fields 0 m (drop 4 p))
        ∙ omega (arith, bytes_long 4 m, turned_long call_fields 0 m (drop 4 p) call_wide rest_room, length-drop 4 p)

    outcome : (u : Bool) (c : Call) (n k : ℕ)
        → placed n (cond u (Err refusal.UnknownKind) (Ok (record { call = c; next = k }))) ≡ cond u (Err refusal.UnknownKind) (Ok (record { call = c; next = n }))
    outcome true c n k = refl
    outcome false c n k = refl

    pub second_is : placed (at + (4 + size_of call_fields m)) (read_call Turned 0) ≡ read_as Second s at
    unfolding read_as read_call
    second_is =
        let vs = flips_standing 0 m (values_at call_fields m (drop (at + 4) s)) in
        rw (
          map_back,
          le-leb (0 + 4) (length Turned) (omega (arith, long_is)),
          le-leb (0 + (4 + size_of call_fields m)) (length Turned) (omega (arith, long_is)),
          values_back,
          h,
          e,
          marked m (below_mark m q),
          without m (below_mark m q),
          q,
          l,
        )
        (outcome (unknown (get_or vs 0 0) (get_or vs 1 0)) (call_at (get_or vs 0 0) (regime_of (get_or vs 1 0)) m (floats_of (drop 2 vs)))
        (at + (4 + size_of call_fields m)) (0 + (4 + size_of call_fields m)))

-- the first bytes of r, with other bytes behind them
pub copied : (k : ℕ) (r x d : List ℕ) → k ≤ length r → x ≡ take k r → (take k (x ++ d) ≡ take k r) × (k ≤ length (x ++ d))
copied k r x d h e =
    let l : length x ≡ k = rw e (length-take-le k r h) in
    (take_at x d k l ∙ e, omega (arith, l, length-append x d))

-- `read_second`: n is the fields' byte count, r has the record, p₁ and p₂ are what turning and writing the map make of its copy
module _ (s : List ℕ) (at m : ℕ) (h : has_bytes s at 4 ≡ true) (e : number_at 4 (drop at s) ≡ mark + m) (q : complete m ≡ true) (n : ℕ) (en : n ≡ size_of call_fields m)
    (l : has_bytes s at (4 + n) ≡ true) (r : List ℕ) (er : r ≡ drop at s) where
  pub room : 4 + n ≤ length r
  room = rw (er, length-drop at s) (omega (arith, leb-true _ _ l))

  module _ (p p₁ p₂ : List ℕ) (alike : take (4 + n) p ≡ take (4 + n) r) (long : 4 + n ≤ length p) (e₁ : p₁ ≡ take 4 p ++ turned call_fields 0 m (drop 4 p))
      (e₂ : p₂ ≡ bytes_of 4 m ++ drop 4 p₁) where
    answer_is : (a : Result ReadCall Refusal) → a ≡ read_call p₂ 0 → placed (at + (4 + n)) a ≡ read_as Second s at
    answer_is a ea =
        let l' : has_bytes s at (4 + size_of call_fields m) ≡ true = rw en at l in
        let alike' : take (4 + size_of call_fields m) p ≡ take (4 + size_of call_fields m) (drop at s) = rw (en, er) at alike in
        let long' : 4 + size_of call_fields m ≤ length p = rw en at long in
        let front : length (take 4 p) ≡ 4 = length-take-le 4 p (omega arith) in
        let turned_is : p₂ ≡ bytes_of 4 m ++ turned call_fields 0 m (drop 4 p) =
        e₂ ∙ rw e₁ (ap (λ (x : List ℕ). bytes_of 4 m ++ x) (drop_at (take 4 p) (turned call_fields 0 m (drop 4 p)) 4 front)) in
        rw (en, ea, turned_is) (second_is s at m h e q l' p alike' long')

    pub read_fails : (d : Refusal) → Err d ≡ read_call p₂ 0 → Err d ≡ read_as Second s at
    read_fails d ea = answer_is (Err d) ea

    pub reads : (c : ReadCall) → Ok c ≡ read_call p₂ 0 → Ok (record { call = c.call; next = at + (4 + n) }) ≡ read_as Second s at
    reads c ea = answer_is (Ok c) ea
