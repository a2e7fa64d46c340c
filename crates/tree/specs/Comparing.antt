-- A record is compared by the numbers that it holds, but for its place.
use Rattle.std.specs.Prelude.{ℕ, ◌+◌, ◌*◌, ◌≤◌, ◌≡◌, refl, Bool, List, [], ◌∷◌, length, get_or}
use Rattle.std.proofs.Common.{◌∙◌, arith}
use Rattle.tree.specs.Limits.{most_place}
use Rattle.tree.specs.Layout.{record_size, four_numbers, record_at, place_at, HoldsNumber}
use Rattle.tree.specs.Places.{bare, IsRecord}
use Rattle.tree.specs.PlacesLaws.{length_bare, byte_kept, byte_cleared}
use Rattle.tree.specs.Fields.{record_bytes}
use Rattle.tree.specs.Says.{Says}
use Rattle.tree.specs.Saying.{says_of}

-- the bytes from a place on hold the numbers of a record, and 0 in the last two
pub record HoldsFields (list : List ℕ) (at label left right piece : ℕ) : Type 0 where
  pub holds_label : HoldsNumber list at label
  pub holds_left : HoldsNumber list (at + 2) left
  pub holds_right : HoldsNumber list (at + 4) right
  pub holds_piece : HoldsNumber list (at + 6) piece
  pub holds_zero : HoldsNumber list (at + 10) 0

-- record r of a list, and what it is compared with: a label, children and a piece
module _ (list : List ℕ) (r label left right piece : ℕ) (room : record_size * r + record_size ≤ length list) where
  -- the bytes of the record but for its place, as the list has them
  abbrev at : ℕ
  at = record_size * r

  bytes_are : record_at (bare list) r
      ≡ get_or list at 0 ∷ get_or list (at + 1) 0 ∷ get_or list (at + 2) 0 ∷ get_or list (at + 2 + 1) 0
      ∷ get_or list (at + 4) 0 ∷ get_or list (at + 4 + 1) 0 ∷ get_or list (at + 6) 0 ∷ get_or list (at + 6 + 1) 0
      ∷ 0 ∷ 0 ∷ get_or list (at + 10) 0 ∷ get_or list (at + 10 + 1) 0 ∷ []
  bytes_are =
      record_bytes (bare list) at (omega (arith, length_bare list))
      ∙ rw (
        byte_kept list at (λ e. omega (arith, e)),
        byte_kept list (at + 1) (λ e. omega (arith, e)),
        byte_kept list (at + 2) (λ e. omega (arith, e)),
        byte_kept list (at + 2 + 1) (λ e. omega (arith, e)),
        byte_kept list (at + 4) (λ e. omega (arith, e)),
        byte_kept list (at + 4 + 1) (λ e. omega (arith, e)),
        byte_kept list (at + 6) (λ e. omega (arith, e)),
        byte_kept list (at + 6 + 1) (λ e. omega (arith, e)),
        byte_cleared list (at + 8) (omega arith),
        byte_cleared list (at + 8 + 1) (omega arith),
        byte_kept list (at + 10) (λ e. omega (arith, e)),
        byte_kept list (at + 10 + 1) (λ e. omega (arith, e)),
      ) refl

  -- where it holds the numbers it is their record
  fields_same : HoldsFields list at label left right piece → record_at (bare list) r ≡ four_numbers label left
      right piece
  fields_same h =
      bytes_are
      ∙ rw (
        h.holds_label.low,
        h.holds_label.high,
        h.holds_left.low,
        h.holds_left.high,
        h.holds_right.low,
        h.holds_right.high,
        h.holds_piece.low,
        h.holds_piece.high,
        h.holds_zero.low,
        h.holds_zero.high,
      ) refl

  -- and only then
  fields_held : record_at (bare list) r ≡ four_numbers label left right piece
      → HoldsFields list at label left right piece
  fields_held e =
      let bytes = bytes_are in
      record {
        holds_label = record { low = cc; high = cc };
        holds_left = record { low = cc; high = cc };
        holds_right = record { low = cc; high = cc };
        holds_piece = record { low = cc; high = cc };
        holds_zero = record { low = cc; high = cc };
      }

  -- so the comparison says whether it is that record, where its place is not too large
  pub says_record : {b : Bool} → place_at list r ≤ most_place → Says (HoldsFields list at label left right piece) b
      → Says (IsRecord list r (four_numbers label left right piece)) b
  says_record low = says_of (λ h. record { same = fields_same h; placed = low }) (λ is. fields_held is.same)
