-- What a part of a text holds: nothing, one byte more, or two parts in a row; and how long it is.
use Rattle.std.specs.Prelude.{ℕ, ◌+◌, ◌-◌, ◌≤◌, ◌<◌, ◌≡◌, List, [], ◌∷◌, ◌++◌, length, get_or, take, drop}
use Rattle.std.proofs.Common.{sym, ap, ◌∙◌, add-one, arith, take-append-drop, take-suc, take-take, length-take-le}
use Rattle.std.proofs.lemmas.List.{drop-append-le}
use Rattle.std.proofs.Math.Seq.{slice_empty, length-slice}
use Rattle.matching.specs.Found.{part}

-- a part from a place to the same place is empty
pub part_empty : (s : ℕ) (text : List ℕ) → part s s text ≡ []
part_empty s text = slice_empty s text

-- how long a part is
pub part_length : (s e : ℕ) (text : List ℕ) → e ≤ length text → length (part s e text) ≡ e - s
part_length s e text h = length-slice s e text h

-- a part that ends one byte later has that byte at its end
pub part_next : (s e : ℕ) (text : List ℕ) → s ≤ e → e < length text → part s (e + 1) text ≡ part s e text
    ++ (get_or text e 0 ∷ [])
part_next s e text h k =
    rw (add-one, take-suc text e 0)
    (drop-append-le s (take e text) (get_or text e 0 ∷ []) (rw (length-take-le e text (omega arith)) h))

-- a part is one that ends earlier, followed by the part from there on
pub part_join : (s e j : ℕ) (text : List ℕ) → s ≤ e → e ≤ j → e ≤ length text → part s j text ≡ part s e text
    ++ part e j text
part_join s e j text h k l =
    let split : take j text ≡ take e text ++ part e j text =
    sym (rw (take-take e j text k) at (take-append-drop e (take j text))) in
    ap (drop s) split ∙ drop-append-le s (take e text) (part e j text) (rw (length-take-le e text l) h)
