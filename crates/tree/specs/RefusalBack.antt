-- A refusal is known by its number.
use Rattle.std.specs.Prelude.{ℕ, ◌≡◌, refl, false, cond, eqb}
use Rattle.tree.specs.Refusing.{refusal_number}
use Rattle.tree.specs.declared.refusal.Refusal.{Refusal}
use Rattle.tree.specs.declared.refusal.Refusal.TheVariants.{
  ExpressionEmpty,
  ExpressionTooLong,
  OperandMissing,
  GroupLeftOpen,
  ClosingWithoutGroup,
  TooManyGroups,
  BackslashBeforeNoSign,
  TooManyPieces,
  BufferTooShort,
  ListNotGood,
  TextTooLong,
  TooFewWords,
  WordsNotMarks,
  ClassFaulty,
  ClassBufferTooShort,
  CountFaulty,
  TooManyNodes,
  TableTooShort,
}

-- the refusal that a number is the number of
abbrev pub refusal_of : ℕ → Refusal
refusal_of n =
    cond (eqb n 1) ExpressionEmpty
    (cond (eqb n 2) ExpressionTooLong
    (cond (eqb n 3) OperandMissing
    (cond (eqb n 4) GroupLeftOpen
    (cond (eqb n 5) ClosingWithoutGroup
    (cond (eqb n 6) TooManyGroups
    (cond (eqb n 7) BackslashBeforeNoSign
    (cond (eqb n 8) TooManyPieces
    (cond (eqb n 9) BufferTooShort
    (cond (eqb n 10) ListNotGood
    (cond (eqb n 11) TextTooLong
    (cond (eqb n 12) TooFewWords
    (cond (eqb n 13) WordsNotMarks
    (cond (eqb n 14) ClassFaulty
    (cond (eqb n 15) ClassBufferTooShort
    (cond (eqb n 16) CountFaulty
    (cond (eqb n 17) TooManyNodes TableTooShort))))))))))))))))

-- a refusal is that of its number
pub refusal_back : (refusal : Refusal) → refusal_of (refusal_number refusal) ≡ refusal
refusal_back ExpressionEmpty = refl
refusal_back ExpressionTooLong = refl
refusal_back OperandMissing = refl
refusal_back GroupLeftOpen = refl
refusal_back ClosingWithoutGroup = refl
refusal_back TooManyGroups = refl
refusal_back BackslashBeforeNoSign = refl
refusal_back TooManyPieces = refl
refusal_back BufferTooShort = refl
refusal_back ListNotGood = refl
refusal_back TextTooLong = refl
refusal_back TooFewWords = refl
refusal_back WordsNotMarks = refl
refusal_back ClassFaulty = refl
refusal_back ClassBufferTooShort = refl
refusal_back CountFaulty = refl
refusal_back TooManyNodes = refl
refusal_back TableTooShort = refl

-- no refusal has the number 0, which stands for none
pub some_number : (refusal : Refusal) → eqb (refusal_number refusal) 0 ≡ false
some_number ExpressionEmpty = refl
some_number ExpressionTooLong = refl
some_number OperandMissing = refl
some_number GroupLeftOpen = refl
some_number ClosingWithoutGroup = refl
some_number TooManyGroups = refl
some_number BackslashBeforeNoSign = refl
some_number TooManyPieces = refl
some_number BufferTooShort = refl
some_number ListNotGood = refl
some_number TextTooLong = refl
some_number TooFewWords = refl
some_number WordsNotMarks = refl
some_number ClassFaulty = refl
some_number ClassBufferTooShort = refl
some_number CountFaulty = refl
some_number TooManyNodes = refl
some_number TableTooShort = refl
