-- The values of two calls, from the parts that their records have. Assumes nothing.
use mathlib.Core.Path.{◌≡◌, refl, sym, ◌∙◌}
use mathlib.Core.Bool.{Bool, true, false, ◌&&◌}
use mathlib.Core.List.{List}
use Prim.Native.Nat.{ℕ}
use lib.Dec.{eqb}
use lib.ListN.{length}
use Rattle.std.specs.Prelude.{map}
use Rattle.fields.specs.Fields.{bit_of}
use Rattle.fields.specs.Numbers.{bits_of}
use Rattle.records.specs.Call.{number_of, regime_byte, command_parts, waypoint_parts, parts_of, values_of}
use denote.Enum.Bare.{sameb}
use denote.Enum.Declared.{tag_of}
use Rattle.laws.specs.declared.types.FlightRegime.{FlightRegime}
use Rattle.laws.specs.declared.types.FlightRegime.TheVariants.{Copter, Plane}
use Rattle.laws.specs.contracts.types.FlightRegime as regimes
use Rattle.records.specs.declared.call.Kind.{Kind}
use Rattle.records.specs.declared.call.Kind.TheVariants as kind
use Rattle.records.specs.contracts.call.Kind as kinds
use Rattle.records.specs.declared.call_writer.Parts.{Parts}
use Rattle.records.specs.declared.call.Call.{Call}
use Rattle.records.specs.declared.call.Call.TheVariants.{Prime, Attitude, Rate, Waypoint, AbsoluteAttitude, Land, AbsoluteRate}
use Rattle.agreement.specs.Agreement.{same_list, call_values}
use Rattle.agreement.proofs.Same.{same_append}

bits_long : (k : Call) → length (bits_of (parts_of k).numbers) ≡ 20
unfolding parts_of command_parts waypoint_parts bits_of
bits_long Prime = refl
bits_long (Attitude r dt c) = refl
bits_long (Rate r dt c) = refl
bits_long (Waypoint r dt c s cap) = refl
bits_long (AbsoluteAttitude r dt c) = refl
bits_long (Land r dt) = refl
bits_long (AbsoluteRate r dt c) = refl

and_left : (a b c d : Bool) → ((a && b) && c) && d ≡ a && (b && (c && d))
and_left true true c d = refl
and_left true false c d = refl
and_left false b c d = refl

-- `==` of kinds and of regimes is that of their numbers
same_kind : (k l : Kind) → sameb kinds.the_type k l ≡ eqb (number_of k) (number_of l)
same_kind k l = rw (tag k, tag l)
  where
    tag : (k : Kind) → tag_of kinds.the_type k ≡ number_of k
    tag kind.Prime = refl
    tag kind.Attitude = refl
    tag kind.Rate = refl
    tag kind.Waypoint = refl
    tag kind.AbsoluteAttitude = refl
    tag kind.Land = refl
    tag kind.AbsoluteRate = refl

same_regime : (r g : FlightRegime) → sameb regimes.the_type r g ≡ eqb (regime_byte r) (regime_byte g)
same_regime r g = rw (tag r, tag g)
  where
    tag : (r : FlightRegime) → tag_of regimes.the_type r ≡ regime_byte r
    tag Copter = refl
    tag Plane = refl

module _ (p q : Parts) (k l : Call) (e : p ≡ parts_of k) (f : q ≡ parts_of l) where
  values_split : same_list (call_values k) (call_values l)
      ≡ sameb kinds.the_type p.kind q.kind && (sameb regimes.the_type p.regime q.regime && (same_list (bits_of p.numbers) (bits_of q.numbers) && same_list (map bit_of p.keeps) (map bit_of q.keeps)))
  unfolding call_values values_of same_list
  values_split =
      rw (e, f, same_kind (parts_of k).kind (parts_of l).kind, same_regime (parts_of k).regime (parts_of l).regime, same_append (bits_of (parts_of k).numbers) (bits_of (parts_of l).numbers) (map bit_of (parts_of k).keeps) (map bit_of (parts_of l).keeps) (bits_long l ∙ sym (bits_long k)))

  pub values_same : (a b : List ℕ) → a ≡ bits_of p.numbers → b ≡ bits_of q.numbers → (x y : Bool) → x ≡ same_list a b → y ≡ same_list (map bit_of p.keeps) (map bit_of q.keeps)
      → ((sameb kinds.the_type p.kind q.kind && sameb regimes.the_type p.regime q.regime) && x) && y ≡ same_list (call_values k) (call_values l)
  values_same a b g h x y u v = and_left (sameb kinds.the_type p.kind q.kind) (sameb regimes.the_type p.regime q.regime) x y ∙ rw (u, v, g, h) (sym values_split)
