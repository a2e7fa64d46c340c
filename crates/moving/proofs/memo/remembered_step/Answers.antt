-- `moving::memo::remembered_step` meets its contract: a slot with the same key has the step that is asked for, and one
-- that was made anew is what its key tells.
use Rattle.std.proofs.Common.{ℕ, ◌+◌, ◌*◌, ◌≡◌, ◌∙◌, refl, ap, List}
use lib.Bits.{bit_and}
use Rattle.tables.specs.Plan.{leaves_mask}
use Rattle.moving.specs.WordMoved.{marked_leaves}
use Rattle.moving.specs.Remembered.{key_bytes, in_slot, after_by_leaves, step_made, step_after, remembers_more}
use Rattle.moving.proofs.memo.remembered_step.Goals as goal

-- the key by the mask as it was read and the byte as it was converted
key_is : (rows : List ℕ) (word : ℕ) {leaves byte converted : ℕ} → leaves ≡ leaves_mask rows 0 → converted ≡ byte
    → bit_and word leaves * key_bytes + converted ≡ marked_leaves rows 0 word * key_bytes + byte
key_is rows word {converted = converted} read same =
    ap (λ (n : ℕ). bit_and word n * key_bytes + converted) read
    ∙ ap (λ (n : ℕ). marked_leaves rows 0 word * key_bytes + n) same

pub returns-then-marked-ge-KEY_LIMIT : goal.returns-then-marked-ge-KEY_LIMIT
returns-then-marked-ge-KEY_LIMIT c =
    record { word_after = after_by_leaves (rw c.word.ensures at c.moved_closed.ensures.word_after); remembers = c.requires.1 }

pub returns-then-memo-slot : goal.returns-then-memo-slot
returns-then-memo-slot c =
    let rows = c.args.rows.now in
    let classes = c.args.classes.now in
    let remembers = c.requires.1 in record {
      word_after = step_after rows classes c.args.word c.args.byte _ c.ranges.byte.fits (key_is rows c.args.word c.word.ensures c.from.ensures)
          (in_slot c.slot_of-slot.result remembers c.slot_of-slot.ensures c.if-memo-slot.true);
      remembers = remembers;
    }

pub returns : goal.returns
returns c =
    let rows = c.args.rows.now in
    let classes = c.args.classes.now in
    let stepped = rw c.word.ensures at c.moved_closed-after.ensures.word_after in record {
      word_after = after_by_leaves stepped;
      remembers = remembers_more _ _ c.requires.1 c.slot_of-slot.ensures refl
          (step_made rows classes c.args.word c.args.byte _ c.ranges.byte.fits (key_is rows c.args.word c.word.ensures c.from.ensures) stepped);
    }
