-- A good list shows in its records the piece of each node.
use Rattle.std.specs.Prelude.{ℕ, ◌+◌, ◌*◌, ◌<◌, ◌≡◌, refl, List, map, get_or}
use Rattle.std.proofs.Common.{sym, ap, ◌∙◌, arith}
use Rattle.std.proofs.lemmas.List.{map-append}
use Rattle.language.specs.Tree.{Tree, leaf, catenation, union, star, nodes}
use Rattle.tree.specs.Leaf.{Leaf}
use Rattle.tree.specs.Layout.{record_size, piece_at}
use Rattle.tree.specs.PlacesLaws.{piece_bare}
use Rattle.tree.specs.Cut.{wanted}
use Rattle.tree.specs.Records.{encode, Good}
use Rattle.tree.specs.Numbering.{in_postorder, numbered}
use Rattle.cutting.specs.Seats.{Seat, seats, seat_at}
use Rattle.cutting.specs.SeatsLaws.{held_seat, length_seats}
use Rattle.lists.specs.SeatRecordsLaws.{seat_small}
use Rattle.lists.specs.Readback.{byte_of_record}

-- the pieces of the nodes are those of the seats
numbered_seats : (t : Tree Leaf) (p n : ℕ)
    → in_postorder (numbered t (wanted t) p n) ≡ map (λ (x : Seat). x.piece) (seats t p n)
numbered_seats (leaf a) p n = refl
numbered_seats (catenation s t) p n =
    let left = numbered_seats s in let right = numbered_seats t in simp (map-append, left, right)
numbered_seats (union s t) p n =
    let left = numbered_seats s in let right = numbered_seats t in simp (map-append, left, right)
numbered_seats (star s) p n =
    let only = numbered_seats s in simp (map-append, only)

-- record r of a good list shows the piece of its node
pub pieces_of_good : (bytes : List ℕ) (t : Tree Leaf) → Good bytes t → (r : ℕ) → r < nodes t
    → piece_at bytes r ≡ get_or (in_postorder (numbered t (wanted t) 0 1)) r 0
pieces_of_good bytes t good r h =
    let piece : ℕ = (seat_at (seats t 0 1) r).piece in
    let low = byte_of_record t r 6 h in
    let high = byte_of_record t r 7 h in
    let bounded = seat_small t r h in
    let place : record_size * r + 6 + 1 ≡ record_size * r + 7 = omega arith in
    let shown : piece_at (encode t) r ≡ piece =
    rw (place, low, high) (omega (arith, bounded.older, bounded.bounded, good.few)) in
    sym (piece_bare bytes r) ∙ ap (λ (l : List ℕ). piece_at l r) good.of_tree ∙ shown
    ∙ sym (held_seat (λ (x : Seat). x.piece) (seats t 0 1) r (rw (length_seats t 0 1) h))
    ∙ ap (λ (l : List ℕ). get_or l r 0) (sym (numbered_seats t 0 1))
