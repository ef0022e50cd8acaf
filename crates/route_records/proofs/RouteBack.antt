-- The laws of the route record. Assumes nothing.
use Rattle.std.specs.Prelude.{Result, Ok, Err}
use mathlib.Core.Path.{◌≡◌, refl, sym, ap, subst, ◌∙◌}
use mathlib.Core.Bool.{Bool, true, false, cond, not, ◌&&◌}
use mathlib.Core.List.{List, [], ◌∷◌, ◌++◌, append_assoc}
use Prim.Native.Nat.{ℕ, zero, suc, ◌+◌, ◌-◌, ◌*◌, ◌/◌, ◌%◌, ◌<◌, ◌≤◌, ◌^◌}
use native.Mathlib.Omega.{arith}
use native.Mathlib.Nat.{pow-suc}
use borrow.Author.Tests.{le-leb, lt-ltb, le-ltb, ne_eqb, eqb-false, ltb-true, ltb-false, leb-true}
use lib.Dec.{T, eqb, ltb}
use lib.ListN.{length, drop, take, replicate, length-append, length-drop, length-replicate}
use lib.Seq.{drop_at, drop-drop, take-add}
use lib.Ieee.{Float, binary32, of_bits, to_bits}
use lib.Ieee.Bits.{of_bits-to_bits, to_bits-of_bits, to_bits-lt, of_bits-fits}
use Rattle.arithmetic.specs.Constants.{n0}
use Rattle.arithmetic.specs.Order.{finite}
use Rattle.arithmetic.proofs.Bounds.{finite_number}
use Rattle.fields.specs.Bytes.{number_at, bytes_of, has_bytes}
use Rattle.fields.specs.Fields.{ones}
use Rattle.fields.specs.Numbers.{AreF32}
use Rattle.fields.proofs.NumberLaw.{number_back, drop_bytes, not-false}
use Rattle.fields.proofs.FieldLaw.{ones_le, ones_below}
use Rattle.fields.proofs.LawsProof.{laws}
use Rattle.route_records.specs.declared.Loaded.{Loaded}
use Rattle.refusals.specs.declared.Refusal.{Refusal}
use Rattle.refusals.specs.declared.Refusal.TheVariants as refusal
use Rattle.route_records.specs.Record.{
  Route,
  number_count,
  check_map,
  joined,
  one_map,
  two_maps,
  read_maps,
  read_points,
  numbers_at,
  all_finite,
  read,
  read_route,
  number_bytes,
  maps_bytes,
  route_record,
}
use Rattle.route_records.specs.Laws.{IsRoute, RouteLaws, AreBytes, RouteKept}
use Rattle.route_records.proofs.NumbersLaw.{numbers_long}
use Rattle.route_records.proofs.MapsLaw.{
  map_is,
  either,
  maps_apart,
  maps_count,
  one_map_bytes,
  two_map_bytes,
  one_map_long,
  two_maps_long,
  room,
  alone_is,
  first_is,
  second_is,
}
use Rattle.route_records.proofs.RecordLaw.{record_size}

-- ---- a map that is not refused

count_le : (m : ℕ) → check_map m ≡ Ok tt → number_count m ≤ 248
unfolding number_count
count_le m e = omega (arith, ones_below 62 2 m (map_is m e).0, ones_le 62 m)

not_refused : (m : ℕ) → m < 2 ^ 62 → (m ≡ 0 → ⊥) → check_map m ≡ Ok tt
unfolding check_map
not_refused m h z = rw (lt-ltb m (2 ^ 62) h, ne_eqb m 0 z)

-- ---- where a record stands

numbers_back : (xs : List Float) (rest : List ℕ) → AreF32 xs → numbers_at (length xs) (number_bytes xs ++ rest) ≡ xs
unfolding numbers_at number_bytes AreF32
numbers_back [] rest h = refl
numbers_back (x ∷ xs) rest h =
    let b = to_bits binary32 x in
    let below : b < 256 ^ 4 = to_bits-lt binary32 x h.0 in
    rw (append_assoc (bytes_of 4 b) (number_bytes xs) rest, drop_bytes 4 b (number_bytes xs ++ rest), number_back 4 b (number_bytes xs ++ rest) below, of_bits-to_bits binary32 x h.0)
    (ap (λ (l : List Float). x ∷ l) (numbers_back xs rest h.1))

module _ (s : List ℕ) (at m : ℕ) (rest : List ℕ) (e : drop at s ≡ maps_bytes m ++ rest) (ok : check_map m ≡ Ok tt) where
  one_stands : m < 2 ^ 31 → read_maps s at ≡ Ok (record { map = m; next = at + 4 })
  unfolding read_maps one_map
  one_stands h =
      rw (
        le-leb (at + 4) (length s) (omega (arith, room s at m rest e, one_map_long m h)),
        alone_is s at m rest e h,
        lt-ltb m (2 ^ 31) h,
        ne_eqb m 0 (map_is m ok).1,
      )

  two_stand : 2 ^ 31 ≤ m → read_maps s at ≡ Ok (record { map = m; next = at + 8 })
  unfolding read_maps two_maps
  two_stand h =
      let a = 2 ^ 31 + m % 2 ^ 31 in
      let b = m / 2 ^ 31 in
      let low = (map_is m ok).0 in
      let fits : at + 8 ≤ length s = omega (arith, room s at m rest e, two_maps_long m h) in
      let some : b ≡ 0 → ⊥ = λ (z : b ≡ 0). omega arith in
      let back : joined a b ≡ m = omega arith in
      rw (
        le-leb (at + 4) (length s) (omega arith),
        first_is s at m rest e h,
        le-ltb a (2 ^ 31) (omega arith),
        le-leb (at + 8) (length s) fits,
        second_is s at m rest e h low,
        lt-ltb b (2 ^ 31) (omega (arith, low)),
        ne_eqb b 0 some,
        back,
      )

  pub maps_stand : read_maps s at ≡ Ok (record { map = m; next = at + length (maps_bytes m) })
  maps_stand =
      either m (λ (h : m < 2 ^ 31). one_stands h ∙ rw (one_map_long m h)) (λ (h : 2 ^ 31 ≤ m). two_stand h ∙ rw (two_maps_long m h))

pub record_is : (r : Route) → route_record r ≡ maps_bytes r.map ++ number_bytes r.numbers
unfolding route_record
record_is r = refl

stands_at : (s : List ℕ) (at : ℕ) (r : Route) (rest : List ℕ) → at ≤ length s → drop at s ≡ route_record r ++ rest → IsRoute r
    → read_route s at ≡ read r (at + length (route_record r))
unfolding read_route read_points
stands_at s at r rest h e f =
    let m = r.map in
    let xs = r.numbers in
    let k = length (maps_bytes m) in
    let whole : drop at s ≡ maps_bytes m ++ (number_bytes xs ++ rest) = e ∙ rw (record_is r) (append_assoc (maps_bytes m) (number_bytes xs) rest) in
    let after : drop (at + k) s ≡ number_bytes xs ++ rest = sym (drop-drop k at s) ∙ rw whole (drop_at (maps_bytes m) (number_bytes xs ++ rest) k refl) in
    let size : length s - at ≡ length (route_record r) + length rest = sym (length-drop at s) ∙ ap length e ∙ length-append (route_record r) rest in
    let next : at + k + 4 * length xs ≡ at + length (route_record r) = omega (arith, record_size r) in
    let fits : at + k + 4 * length xs ≤ length s = omega (arith, record_size r) in
    rw (
      maps_stand s at m (number_bytes xs ++ rest) whole f.map,
      ← f.long,
      le-leb (at + k + 4 * length xs) (length s) fits,
      after,
      numbers_back xs rest f.held,
      f.finite,
      next,
    )

-- ---- the bytes that were read

bytes_dropped : (k : ℕ) (s : List ℕ) → AreBytes s → AreBytes (drop k s)
unfolding AreBytes
bytes_dropped zero s h = h
bytes_dropped (suc k) [] h = tt
bytes_dropped (suc k) (b ∷ s) h = bytes_dropped k s h.1

number_below : (k : ℕ) (s : List ℕ) → AreBytes s → number_at k s < 256 ^ k
unfolding number_at AreBytes
number_below zero s h = omega arith
number_below (suc k) [] h = let z = number_below k [] tt in let p : 256 ^ suc k ≡ 256 ^ k * 256 = pow-suc 256 k in omega arith
number_below (suc k) (b ∷ s) h = let z = number_below k s h.1 in let p : 256 ^ suc k ≡ 256 ^ k * 256 = pow-suc 256 k in omega (arith, h.0)

bytes_back : (k : ℕ) (s : List ℕ) → AreBytes s → k ≤ length s → bytes_of k (number_at k s) ≡ take k s
unfolding bytes_of number_at AreBytes
bytes_back zero s h l = refl
bytes_back (suc k) [] h l = absurd (omega arith)
bytes_back (suc k) (b ∷ s) h l =
    let low : (b + 256 * number_at k s) % 256 ≡ b = omega (arith, h.0) in
    let high : (b + 256 * number_at k s) / 256 ≡ number_at k s = omega (arith, h.0) in
    rw (low, high) (ap (λ (t : List ℕ). b ∷ t) (bytes_back k s h.1 (omega arith)))

both : (a b : Bool) → (a && b) ≡ true → (a ≡ true) × (b ≡ true)
both true true e = (refl, refl)
both true false e = absurd (subst T (sym e) tt)
both false b e = absurd (subst T (sym e) tt)

numbers_same : (n : ℕ) (s : List ℕ) → AreBytes s → 4 * n ≤ length s → all_finite (numbers_at n s) ≡ true → number_bytes (numbers_at n s) ≡ take (4 * n) s
unfolding number_bytes numbers_at all_finite
numbers_same zero s h l f = refl
numbers_same (suc n) s h l f =
    let b = number_at 4 s in
    let fs = both (finite (of_bits binary32 b)) (all_finite (numbers_at n (drop 4 s))) f in
    let below : b < 2 * 2 ^ 31 = number_below 4 s h in
    let bits : to_bits binary32 (of_bits binary32 b) ≡ b = to_bits-of_bits binary32 b below (not-false (finite_number (of_bits binary32 b) fs.0)) in
    let rest : number_bytes (numbers_at n (drop 4 s)) ≡ take (4 * n) (drop 4 s) =
    numbers_same n (drop 4 s) (bytes_dropped 4 s h) (simp length-drop (omega arith)) fs.1 in
    let all : 4 + 4 * n ≡ 4 * suc n = omega arith in
    rw (bits, rest, bytes_back 4 s h (omega arith), ← take-add 4 (4 * n) s, all)

-- ---- what was read

numbers_are : (n : ℕ) (s : List ℕ) → AreF32 (numbers_at n s)
unfolding numbers_at AreF32
numbers_are zero s = tt
numbers_are (suc n) s = (of_bits-fits binary32 (number_at 4 s), numbers_are n (drop 4 s))

no_read : {A B : Type 0} (e : Refusal) (v : B) → ◌≡◌ {A = Result B Refusal} (Err e) (Ok v) → A
no_read e v q = absurd (cc)

pub read_is : {B : Type 0} (v w : B) → ◌≡◌ {A = Result B Refusal} (Ok v) (Ok w) → v ≡ w
read_is v w e = cc

-- maps that were read
record MapsRead (s : List ℕ) (at m from : ℕ) : Type 0 where
  pub ok : check_map m ≡ Ok tt
  pub place : from ≡ at + length (maps_bytes m)
  pub bytes : AreBytes s → maps_bytes m ≡ take (length (maps_bytes m)) (drop at s)

module _ (s : List ℕ) (at m from : ℕ) where
  abbrev First : ℕ
  First = number_at 4 (drop at s)

  abbrev Second : ℕ
  Second = number_at 4 (drop (at + 4) s)

  one_read : at + 4 ≤ length s → First < 2 ^ 31 → (First ≡ 0 → ⊥) → First ≡ m → at + 4 ≡ from → MapsRead s at m from
  one_read l low some em ep =
      let small : m < 2 ^ 31 = omega arith in
      record {
        ok = not_refused m (omega arith) (λ (z : m ≡ 0). some (em ∙ z));
        place = omega (arith, one_map_long m small);
        bytes = λ (h : AreBytes s). rw (one_map_long m small, one_map_bytes m small, ← em) (bytes_back 4 (drop at s) (bytes_dropped at s h) (simp length-drop (omega arith)));
      }

  two_read : at + 8 ≤ length s → 2 ^ 31 ≤ First → Second < 2 ^ 31 → (Second ≡ 0 → ⊥) → joined First Second ≡ m
      → at + 8 ≡ from → MapsRead s at m from
  two_read l high low some em ep =
      let large : 2 ^ 31 ≤ m = omega arith in
      record {
        ok = not_refused m (omega arith) (λ (z : m ≡ 0). omega arith);
        place = omega (arith, two_maps_long m large);
        bytes = λ (h : AreBytes s).
            let t = drop at s in
            let bs = bytes_dropped at s h in
            let below : First < 2 ^ 32 = number_below 4 t bs in
            let a : 2 ^ 31 + m % 2 ^ 31 ≡ First = omega arith in
            let b : m / 2 ^ 31 ≡ Second = omega arith in
            let front : bytes_of 4 First ≡ take 4 t = bytes_back 4 t bs (simp length-drop (omega arith)) in
            let back : bytes_of 4 Second ≡ take 4 (drop 4 t) =
            rw (← drop-drop 4 at s) (bytes_back 4 (drop 4 t) (bytes_dropped 4 t bs) (simp length-drop (omega arith))) in
            rw (two_maps_long m large, two_map_bytes m large, a, b, front, back, ← take-add 4 4 t);
      }

  one_found : at + 4 ≤ length s → First < 2 ^ 31 → (z : Bool) → eqb First 0 ≡ z
      → cond {A = Result Loaded Refusal} z (Err refusal.NoPoint) (Ok (record { map = First; next = at + 4 })) ≡ Ok (record { map = m; next = from }) → MapsRead s at m from
  one_found l low true q w = no_read refusal.NoPoint (record { map = m; next = from }) w
  one_found l low false q w =
      let same = read_is (record { map = First; next = at + 4 }) (record { map = m; next = from }) w in
      one_read l low (eqb-false First 0 q) (ap (λ (x : Loaded). x.map) same) (ap (λ (x : Loaded). x.next) same)

  two_found : 2 ^ 31 ≤ First → (c d y : Bool) → has_bytes s at 8 ≡ c → ltb Second (2 ^ 31) ≡ d → eqb Second 0 ≡ y
      → cond {A = Result Loaded Refusal} (not c) (Err refusal.TooFewBytes) (cond (not d) (Err refusal.UnknownMap) (cond y (Err refusal.UnknownMap) (Ok (record { map = joined First Second; next = at + 8 })))) ≡ Ok (record { map = m; next = from })
      → MapsRead s at m from
  two_found high true true true p q r w = no_read refusal.UnknownMap (record { map = m; next = from }) w
  two_found high true true false p q r w =
      let same = read_is (record { map = joined First Second; next = at + 8 }) (record { map = m; next = from }) w in
      two_read (leb-true _ _ p) high (ltb-true Second (2 ^ 31) q) (eqb-false Second 0 r) (ap (λ (x : Loaded). x.map) same) (ap (λ (x : Loaded). x.next) same)
  two_found high true false y p q r w = no_read refusal.UnknownMap (record { map = m; next = from }) w
  two_found high false d y p q r w = no_read refusal.TooFewBytes (record { map = m; next = from }) w

  maps_read : read_maps s at ≡ Ok (record { map = m; next = from }) → MapsRead s at m from
  unfolding read_maps one_map two_maps
  maps_read e = go (has_bytes s at 4) refl (ltb First (2 ^ 31)) refl e
    where
      go : (a : Bool) → has_bytes s at 4 ≡ a → (b : Bool) → ltb First (2 ^ 31) ≡ b
          → cond {A = Result Loaded Refusal} (not a) (Err refusal.TooFewBytes)
          (cond b (cond (eqb First 0) (Err refusal.NoPoint) (Ok (record { map = First; next = at + 4 })))
          (cond (not (has_bytes s at 8)) (Err refusal.TooFewBytes)
          (cond (not (ltb Second (2 ^ 31))) (Err refusal.UnknownMap)
          (cond (eqb Second 0) (Err refusal.UnknownMap) (Ok (record { map = joined First Second; next = at + 8 })))))) ≡ Ok (record { map = m; next = from })
          → MapsRead s at m from
      go true p true q w = one_found (leb-true _ _ p) (ltb-true First (2 ^ 31) q) (eqb First 0) refl w
      go true p false q w = two_found (ltb-false First (2 ^ 31) q) (has_bytes s at 8) (ltb Second (2 ^ 31)) (eqb Second 0) refl refl refl w
      go false p b q w = no_read refusal.TooFewBytes (record { map = m; next = from }) w

-- a route that was read: its maps, and its numbers from the place after them
record Whole (s : List ℕ) (at : ℕ) (r : Route) (next : ℕ) : Type 0 where
  pub from : ℕ
  pub maps : MapsRead s at r.map from
  pub fits : from + 4 * number_count r.map ≤ length s
  pub numbers : numbers_at (number_count r.map) (drop from s) ≡ r.numbers
  pub finite : all_finite (numbers_at (number_count r.map) (drop from s)) ≡ true
  pub ends : next ≡ from + 4 * number_count r.map

module _ (s : List ℕ) (at : ℕ) (r : Route) (next : ℕ) where
  abbrev Numbers : ℕ → ℕ → List Float
  Numbers m from = numbers_at (number_count m) (drop from s)

  points : (m from : ℕ) → MapsRead s at m from → (d f : Bool) → has_bytes s from (4 * number_count m) ≡ d → all_finite (Numbers m from) ≡ f
      → cond (not d) (Err refusal.TooFewBytes) (cond (not f) (Err refusal.PointNotFinite) (read (record { map = m; numbers = Numbers m from }) (from + 4 * number_count m))) ≡ read r next
      → Whole s at r next
  points m from k true true p q w =
      let same = read_is (record { map = m; numbers = Numbers m from }, from + 4 * number_count m) (r, next) w in
      subst (λ (x : Route × ℕ). Whole s at x.0 x.1) same
      (record { from = from; maps = k; fits = leb-true _ _ p; numbers = refl; finite = q; ends = refl })
  points m from k true false p q w = no_read refusal.PointNotFinite (r, next) w
  points m from k false f p q w = no_read refusal.TooFewBytes (r, next) w

  whole : read_route s at ≡ read r next → Whole s at r next
  unfolding read_route read_points
  whole e = go (read_maps s at) refl e
    where
      go : (l : Result Loaded Refusal) → read_maps s at ≡ l → read_points l s ≡ read r next → Whole s at r next
      go (Err e) q w = no_read e (r, next) w
      go (Ok l) q w =
          points l.map l.next (maps_read s at l.map l.next q) (has_bytes s l.next (4 * number_count l.map)) (all_finite (Numbers l.map l.next)) refl refl w

module _ (s : List ℕ) (at : ℕ) (r : Route) (next : ℕ) (e : read_route s at ≡ read r next) where
  pub held : IsRoute r
  held =
      let w = whole s at r next e in
      let n = number_count r.map in
      let t = drop w.from s in
      record {
        map = w.maps.ok;
        long = rw (← w.numbers) (numbers_long n t);
        held = subst AreF32 w.numbers (numbers_are n t);
        finite = rw (← w.numbers) w.finite;
      }

  no_longer : at + length (route_record r) ≤ next
  no_longer = let w = whole s at r next e in omega (arith, record_size r, held.long, w.maps.place, w.ends)

  same_bytes : AreBytes s → route_record r ≡ take (next - at) (drop at s)
  same_bytes h =
      let w = whole s at r next e in
      let n = number_count r.map in
      let k = length (maps_bytes r.map) in
      let t = drop at s in
      let bs = bytes_dropped at s h in
      let tail : drop w.from s ≡ drop k t = rw w.maps.place (sym (drop-drop k at s)) in
      let size : next - at ≡ k + 4 * n = omega (arith, w.ends, w.maps.place) in
      let all = rw tail at w.finite in
      let numbers : number_bytes r.numbers ≡ take (4 * n) (drop k t) =
      ap number_bytes (sym w.numbers) ∙ rw tail (numbers_same n (drop k t) (bytes_dropped k t bs) (simp length-drop (omega (arith, w.fits, w.maps.place))) all) in
      record_is r ∙ rw (numbers, size) (ap (λ (l : List ℕ). l ++ take (4 * n) (drop k t)) (w.maps.bytes h) ∙ sym (take-add k (4 * n) t))

one : (v w : Route) (a b : ℕ) → read v a ≡ read w b → v ≡ w
one v w a b e = ap (λ (x : Route × ℕ). x.0) (read_is (v, a) (w, b) e)

pub route_laws : RouteLaws
route_laws = laws IsRoute route_record read_route read stands_at held no_longer one

-- ---- the greatest length

-- sixty-two points of zeros
abbrev Longest : Route
Longest = record { map = 2 ^ 62 - 1; numbers = replicate 248 n0 }

all_held : (n : ℕ) → AreF32 (replicate n n0)
unfolding AreF32
all_held zero = tt
all_held (suc n) = (of_bits-fits binary32 0, all_held n)

all_finite_lem : (n : ℕ) → all_finite (replicate n n0) ≡ true
unfolding all_finite finite of_bits
all_finite_lem zero = refl
all_finite_lem (suc n) = all_finite_lem n

longest_is : IsRoute Longest
unfolding check_map number_count ones
longest_is = record { map = refl; long = length-replicate 248 n0; held = all_held 248; finite = all_finite_lem 248 }

-- the maps and the numbers of a route that is not refused
size-le : (r : Route) → check_map r.map ≡ Ok tt → length (maps_bytes r.map) + 4 * number_count r.map ≤ 1000
size-le r ok =
    either r.map
    (λ (h : r.map < 2 ^ 31). omega (arith, one_map_long r.map h, count_le r.map ok))
    (λ (h : 2 ^ 31 ≤ r.map). omega (arith, two_maps_long r.map h, count_le r.map ok))

stepped : (s : List ℕ) (at : ℕ) (r : Route) (next : ℕ) → read_route s at ≡ read r next → next ≤ at + 1000
stepped s at r next e = let w = whole s at r next e in omega (arith, w.maps.place, w.ends, size-le r w.maps.ok)

pub route_kept : RouteKept
route_kept =
    record {
      apart = maps_apart;
      counts = maps_count;
      longest = λ r f. omega (arith, record_size r, f.long, size-le r f.map);
      stepped = stepped;
      reached = (Longest, longest_is, omega (arith, record_size Longest, length-replicate 248 n0, two_maps_long (2 ^ 62 - 1) (omega arith)));
      bytes = λ s at r next h e. same_bytes s at r next e h;
    }
