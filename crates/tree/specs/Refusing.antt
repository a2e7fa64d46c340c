-- Which number each refusal has: the rows of the table of refusals.
use Rattle.std.specs.Prelude.{ℕ}
use Rattle.tree.specs.RefusalNumbers.{
  expression_empty,
  expression_too_long,
  operand_missing,
  group_left_open,
  closing_without_group,
  too_many_groups,
  backslash_before_no_sign,
  too_many_pieces,
  buffer_too_short,
  list_not_good,
  text_too_long,
  too_few_words,
  words_not_marks,
  class_faulty,
  class_buffer_too_short,
  count_faulty,
  too_many_nodes,
  table_too_short,
}
use Rattle.tree.specs.declared.refusal.Refusal.{Refusal}
use Rattle.tree.specs.declared.refusal.Refusal.TheVariants.{
  ExpressionEmpty,
  ExpressionTooLong,
  OperandMissing,
  GroupLeftOpen,
  ClosingWithoutGroup,
  TooManyGroups,
  BackslashBeforeNoSign,
  TooManyPieces,
  BufferTooShort,
  ListNotGood,
  TextTooLong,
  TooFewWords,
  WordsNotMarks,
  ClassFaulty,
  ClassBufferTooShort,
  CountFaulty,
  TooManyNodes,
  TableTooShort,
}

-- the number of a refusal
abbrev pub refusal_number : Refusal → ℕ
refusal_number ExpressionEmpty = expression_empty
refusal_number ExpressionTooLong = expression_too_long
refusal_number OperandMissing = operand_missing
refusal_number GroupLeftOpen = group_left_open
refusal_number ClosingWithoutGroup = closing_without_group
refusal_number TooManyGroups = too_many_groups
refusal_number BackslashBeforeNoSign = backslash_before_no_sign
refusal_number TooManyPieces = too_many_pieces
refusal_number BufferTooShort = buffer_too_short
refusal_number ListNotGood = list_not_good
refusal_number TextTooLong = text_too_long
refusal_number TooFewWords = too_few_words
refusal_number WordsNotMarks = words_not_marks
refusal_number ClassFaulty = class_faulty
refusal_number ClassBufferTooShort = class_buffer_too_short
refusal_number CountFaulty = count_faulty
refusal_number TooManyNodes = too_many_nodes
refusal_number TableTooShort = table_too_short
