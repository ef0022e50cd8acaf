-- Each outcome of loading and of writing a route. Assumes nothing.
use Rattle.std.specs.Prelude.{Result, Ok, Err}
use mathlib.Core.Path.{◌≡◌, sym, ap, ◌∙◌}
use mathlib.Core.Bool.{Bool, true, false}
use mathlib.Core.List.{List, ◌++◌}
use Prim.Native.Nat.{ℕ, ◌+◌, ◌-◌, ◌*◌, ◌/◌, ◌<◌, ◌≤◌}
use native.Mathlib.Omega.{arith}
use borrow.Author.Tests.{le-leb, lt-leb, leb-true, leb-false}
use borrow.Rule.Slice.PartMut.{put_mid}
use lib.ListN.{length, drop, take, length-append, length-drop}
use lib.Seq.{length-take-le}
use lib.Ieee.{Float}
use Rattle.refusals.specs.declared.Refusal.{Refusal}
use Rattle.refusals.specs.declared.Refusal.TheVariants as refusal
use Rattle.fields.specs.Bytes.{has_bytes, put_at}
use Rattle.fields.specs.Numbers.{numbers_at}
use Rattle.fields.specs.Writing.{answer_of, buffer_of}
use Rattle.fields.proofs.FieldLaw.{rest_is, put_after}
use Rattle.fields.proofs.FloatLaw.{numbers_take}
use Rattle.fields.proofs.WriteLaw as write
use Rattle.route_records.specs.declared.Loaded.{Loaded}
use Rattle.route_records.specs.Record.{
  Route,
  number_count,
  check_map,
  all_finite,
  RouteRead,
  read,
  read_points,
  answer_to,
  buffer_to,
  number_bytes,
  maps_bytes,
  route_record,
  write_answer,
  write_buffer,
}
use Rattle.route_records.proofs.NumbersLaw.{numbers_long, bytes_size}

-- ---- reading the points

-- part is the bytes of the numbers that the map demands, cut out of s
module _ (s : List ℕ) (maps : Loaded) (out : List Float) (n : ℕ) (en : n ≡ number_count maps.map) (fits : has_bytes s maps.next (4 * n) ≡ true)
    (rest : List ℕ) (is_rest : rest ≡ drop maps.next s) where
  abbrev Found : RouteRead
  Found = read_points (Ok maps) s

  abbrev Cut : List ℕ
  Cut = take (4 * n) rest

  abbrev Numbers : List Float
  Numbers = numbers_at n (drop maps.next s)

  cut_long : length Cut ≡ 4 * n
  cut_long =
      length-take-le (4 * n) rest
      (rw is_rest (simp length-drop (omega (arith, leb-true (maps.next + 4 * n) (length s) fits))))

  pub cut_numbers : numbers_at n Cut ≡ Numbers
  cut_numbers = rw is_rest (numbers_take n (4 * n) (drop maps.next s) (omega arith))

  -- b says whether all are finite
  module _ (b : Bool) (eb : b ≡ all_finite (numbers_at (length Cut / 4) Cut)) where
    finite_is : all_finite Numbers ≡ b
    finite_is =
        let count : length Cut / 4 ≡ n = omega (arith, cut_long) in
        sym (eb ∙ ap (λ (k : ℕ). all_finite (numbers_at k Cut)) count ∙ ap all_finite cut_numbers)

    pub not_finite : b ≡ false → (Err refusal.PointNotFinite ≡ answer_to Found out) × (out ≡ buffer_to Found out)
    unfolding read_points
    not_finite q = (rw (← en, fits, finite_is ∙ q), rw (← en, fits, finite_is ∙ q))

    module _ (q : b ≡ true) where
      found : Found ≡ read (record { map = maps.map; numbers = Numbers }) (maps.next + 4 * n)
      unfolding read_points
      found = rw (← en, fits, finite_is ∙ q)

      pub no_room : length out < n → (Err refusal.TooLittleRoom ≡ answer_to Found out) × (out ≡ buffer_to Found out)
      no_room k =
          let no = lt-leb (length Numbers) (length out) (rw (numbers_long n (drop maps.next s)) k) in
          (rw (found, no), rw (found, no))

      pub loads : n ≤ length out → (v : List Float) → v ≡ numbers_at (length (take n out)) Cut
          → (Ok (record { map = maps.map; next = maps.next + 4 * n }) ≡ answer_to Found out) × (v ++ drop n out ≡ buffer_to Found out)
      loads k v ev =
          let long = numbers_long n (drop maps.next s) in
          let yes = le-leb (length Numbers) (length out) (rw long k) in
          let is : v ≡ Numbers = ev ∙ rw (length-take-le n out k) cut_numbers in
          (rw (found, yes), rw (found, yes, long, is))

-- ---- writing

pub record_size : (r : Route) → length (route_record r) ≡ length (maps_bytes r.map) + 4 * length r.numbers
unfolding route_record
record_size r = length-append (maps_bytes r.map) (number_bytes r.numbers) ∙ omega (arith, bytes_size r.numbers)

-- r is what the map is found to be
module _ (out : List ℕ) (at m : ℕ) (numbers : List Float) where
  abbrev Gives : Result ℕ Refusal → List ℕ → Type 0
  Gives w after = (w ≡ write_answer out at m numbers) × (after ≡ write_buffer out at m numbers)

  pub write_bad : (e : Refusal) → Err e ≡ check_map m → Gives (Err e) out
  unfolding write_answer write_buffer
  write_bad e q = (rw (← q), rw (← q))

  module _ (ok : Ok tt ≡ check_map m) (n : ℕ) (en : n ≡ number_count m) where
    pub write_short : length numbers < n → Gives (Err refusal.TooFewBytes) out
    unfolding write_answer write_buffer
    write_short h = (rw (← ok, ← en, lt-leb n (length numbers) h), rw (← ok, ← en, lt-leb n (length numbers) h))

    -- k is the size of the maps
    module _ (h : n ≤ length numbers) (k : ℕ) (ek : k ≡ length (maps_bytes m)) where
      abbrev R : List ℕ
      R = route_record (record { map = m; numbers = take n numbers })

      size_is : k + 4 * n ≡ length R
      size_is = sym (record_size (record { map = m; numbers = take n numbers }) ∙ rw (length-take-le n numbers h, ← ek))

      settled : (w : Result ℕ Refusal) (after : List ℕ) → (w ≡ answer_of out at R) × (after ≡ buffer_of out at R) → Gives w after
      unfolding write_answer write_buffer
      settled w after g = (rw (← ok, ← en, le-leb n (length numbers) h) g.0, rw (← ok, ← en, le-leb n (length numbers) h) g.1)

      pub write_full : has_bytes out at (k + 4 * n) ≡ false → Gives (Err refusal.TooLittleRoom) out
      write_full q = settled _ _ (write.refused out at R (k + 4 * n) size_is (leb-false _ _ q))

      -- there is room; q is what the maps' writing left of the part, p what the numbers' left
      module _ (room : has_bytes out at (k + 4 * n) ≡ true) where
        abbrev Part : List ℕ
        Part = take (length out - at) (drop at out)

        pub part_long : k + 4 * n ≤ length Part
        part_long = rw (rest_is out at) (simp length-drop (omega (arith, leb-true (at + (k + 4 * n)) (length out) room)))

        module _ (q : List ℕ) (eq : q ≡ maps_bytes m ++ drop (length (maps_bytes m)) Part) where
          pub numbers_fit : k + 4 * length (take n numbers) ≤ length q
          numbers_fit = rw (length-take-le n numbers h, eq) (simp (length-append, length-drop) (omega (arith, part_long, ek)))

          pub writes : (p : List ℕ) → p ≡ put_at q k (number_bytes (take n numbers)) → Gives (Ok (at + (k + 4 * n))) (put_mid at (length out - at) out p)
          unfolding route_record
          writes p e =
              settled _ _
              (write.accepted out at R (k + 4 * n) size_is (leb-true (at + (k + 4 * n)) (length out) room) p
              (put_after k Part q p (maps_bytes m) (number_bytes (take n numbers)) (sym ek) (omega (arith, part_long)) (rw (← ek) at eq) e))
