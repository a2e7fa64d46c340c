-- When a table fits, by numbers: exactly where there are no more texts than fit at most.
use Rattle.std.specs.Prelude.{ℕ, ◌+◌, ◌-◌, ◌*◌, ◌/◌, ◌≤◌, ◌<◌, min, ◌↔◌}
use Rattle.std.proofs.Common.{arith, le-div_iff_mul-le}
use Rattle.machines.specs.TableOf.{heading, most_entries, entry_count, state_room, TableFits, most_texts}

module _ (pieces columns table-length room-length n : ℕ) where
  -- so many states have so many entries
  in_entries : (most : ℕ) → (1 + n ≤ (most - heading) / (columns + 1)) ↔ (entry_count columns (1 + n) ≤ most)
  in_entries most =
      let some : 0 < columns + 1 = omega arith in
      let by_count = le-div_iff_mul-le {x = 1 + n} {y = most - heading} some in
      (λ h. omega (arith, by_count.0 h), λ h. by_count.1 (omega arith))

  -- so many texts take so much room
  in_words : (n ≤ room-length / state_room pieces columns)
      ↔ (state_room pieces columns * (1 + n) ≤ room-length + state_room pieces columns)
  in_words =
      let some : 0 < state_room pieces columns = omega arith in
      let by_count = le-div_iff_mul-le {x = n} {y = room-length} some in
      (λ h. omega (arith, by_count.0 h), λ h. by_count.1 (omega arith))

  -- the result: the states of n texts, one or more, fit where n is no more than fit at most
  pub fits_most : 1 ≤ n → TableFits pieces columns (1 + n) table-length room-length
      ↔ (n ≤ most_texts pieces columns table-length room-length)
  fits_most some = (
    λ fits. omega (
      arith,
      (in_entries (min most_entries table-length)).1 (omega (arith, fits.few, fits.in_table)),
      in_words.1 fits.in_room,
    ),
    λ few.
        let all : entry_count columns (1 + n) ≤ min most_entries table-length =
        (in_entries (min most_entries table-length)).0 (omega arith) in
        record { few = omega arith; in_table = omega arith; in_room = in_words.0 (omega arith) },
  )
