-- `marks::along::told_of` meets its contract: the bit of the last state of piece 0 tells of the accepting state, and
-- the words are looked through for a mark.
use Rattle.std.proofs.Common.{ℕ, ◌≤◌, ◌<◌, ◌≡◌, sym, ◌∙◌, Bool, true, false, List, length, take, get_or-take, length-take-le, rules, arith}
use Rattle.std.specs.Bool.{MatchBool}
use Rattle.std.specs.List.{AllWithin, HoldsAt}
use Rattle.std.proofs.lemmas.Iterator.{cases_from_all, YieldsList-from_slice}
use Rattle.closing.specs.BitsOfWords.Bits.{Tells}
use Rattle.closing.specs.BitsOfWords.Zero.{AllZero}
use Rattle.stepping.specs.Texts.{all_words}
use Rattle.stepping.specs.Inner.{first_row, top_low}
use Rattle.marks.proofs.AlongLaws.{told_by}
use Rattle.marks.proofs.along.told_of.Goals as goal

-- the first n words, asked one by one
told_zeros : (n : ℕ) (words : List ℕ) (answer : Bool) → n ≤ length words
    → MatchBool answer (AllWithin (λ x. x ≡ 0) (take n words) 0 (length (take n words)))
    ((k : ℕ) × (k < length (take n words)) × HoldsAt (λ x. x ≡ 0 → ⊥) (take n words) k)
    → Tells (AllZero n words) answer
told_zeros n words true enough all = record {
  holds = λ e k low. sym (get_or-take n words k 0 low) ∙ all k 0 (omega arith) (omega (arith, length-take-le n words enough));
  fails = λ e. cc;
}
told_zeros n words false enough (k, low, not) = record {
  holds = λ e. cc;
  fails = λ e zeros.
      let inside : k < n = omega (arith, length-take-le n words enough) in
      not 0 (get_or-take n words k 0 inside ∙ zeros k inside);
}

pub bounds-words-0 : goal.bounds-words-0
bounds-words-0 c =
    let running = c.requires in
    omega (arith, all_words running.ready.of_tree.0, running.ready.of_tree.1.counted, running.enough)

pub invariant_of-root : goal.invariant_of-root
invariant_of-root c = record { inside = first_row c.requires.ready }

pub has_bit-requires : goal.has_bit-requires
has_bit-requires c = omega (arith, c.top.ensures, top_low c.requires.ready.of_tree.1)

pub returns : goal.returns
returns c = λ t prepared marks.
    told_by prepared marks _ c.top.ensures c.has_bit.ensures (told_zeros c.args.count c.args.words.now c.all.result c.requires.enough
    (cases_from_all _ _ _ (λ x. x ≡ 0) (λ x. x ≡ 0 → ⊥) c.all.ensures.ran (YieldsList-from_slice (take c.args.count c.args.words.now) c.iter.ensures.rest)
    (λ x q k. search rules) (λ x q k. search rules)))
