-- Examples of docs/REFERENCE.md, section 8, and the edges of the input, by computing the output.
use Rattle.std.specs.Prelude.{ℕ, ◌≡◌, refl, List, [], ◌∷◌}
use Rattle.tree.specs.Records.{piece_count}
use Rattle.operands.specs.Text.{bytes}
use Rattle.operands.specs.Scanner.{scan, scanned}
use Rattle.checker.specs.Expanded.{expanded}
use Rattle.finder.specs.Decide.{any_split, any_repeat, leaf_text, matched}
use Rattle.picker.specs.Edges.{Every}
use Rattle.input.specs.Lines.{lines}
use Rattle.printing.specs.Digits.{digits, digits_within}
use Rattle.reporting.specs.Print.{text_lines, output, picked}

-- an input, and what is printed for it
pub record SampleRun : Type 0 where
  pub input : List ℕ
  pub printed : List ℕ

-- what a run says
abbrev pub PrintsSo : SampleRun → Type 0
PrintsSo run = picked run.input ≡ run.printed

-- the sample, and runs at the edges of what a line is
abbrev pub sample_runs : List SampleRun
sample_runs =
    -- the sample
    record {
      input = bytes "02-2(8|9)\n02-28\n02-29\n03-01\n";
      printed =
          bytes "1 yes 1\n2 yes 2\n3 no -\ntotal 3 yes 2 no 1\n";
    }
    -- no input, and an empty first line
    ∷ record { input = bytes ""; printed = bytes "refused 1 at 0\n" }
    ∷ record { input = bytes "\na"; printed = bytes "refused 1 at 0\n" }
    -- an expression alone, with and without an end
    ∷ record { input = bytes "a"; printed = bytes "total 0 yes 0 no 0\n" }
    ∷ record { input = bytes "a\n"; printed = bytes "total 0 yes 0 no 0\n" }
    -- an empty text is a text, and a last line needs no end
    ∷ record { input = bytes "a*\n\nb\naa"; printed = bytes "1 yes 1\n2 no -\n3 yes 2\ntotal 3 yes 2 no 1\n" }
    -- a refusal is the only line
    ∷ record { input = bytes "(a\\b\nx\n"; printed = bytes "refused 7 at 2\n" }
    ∷ []

-- runs with bytes 13
abbrev pub return_runs : List SampleRun
return_runs =
    -- the sample with 13 and 10 at each line's end, and the two ends mixed
    record {
      input = bytes "02-2(8|9)\r\n02-28\r\n02-29\r\n03-01\r\n";
      printed =
          bytes "1 yes 1\n2 yes 2\n3 no -\ntotal 3 yes 2 no 1\n";
    }
    ∷ record { input = bytes "a\na\r\na\nb\r\n"; printed = bytes "1 yes 1\n2 yes 2\n3 no -\ntotal 3 yes 2 no 1\n" }
    -- an end alone is an empty line
    ∷ record { input = bytes "\r\na"; printed = bytes "refused 1 at 0\n" }
    ∷ record { input = bytes "a*\n\r\n\n"; printed = bytes "1 yes 1\n2 yes 2\ntotal 2 yes 2 no 0\n" }
    -- byte 13 is an ordinary byte before another 13, before another byte, and last
    ∷ record { input = bytes "a\r\na\r\r\na\rb\na\r"; printed = bytes "1 no -\n2 no -\n3 no -\ntotal 3 yes 0 no 3\n" }
    ∷ record { input = bytes "a\r\r\na\r\r\na\r"; printed = bytes "1 yes 1\n2 yes 2\ntotal 2 yes 2 no 0\n" }
    ∷ record { input = bytes "a\rb\r\na\rb\n"; printed = bytes "1 yes 1\ntotal 1 yes 1 no 0\n" }
    ∷ record { input = bytes "\r"; printed = bytes "total 0 yes 0 no 0\n" }
    ∷ []

-- every run prints so
pub runs_print : Every PrintsSo sample_runs
unfolding scan scanned expanded piece_count any_split any_repeat leaf_text matched lines digits digits_within
    text_lines output
runs_print = (refl, (refl, (refl, (refl, (refl, (refl, (refl, tt)))))))

pub return_runs_print : Every PrintsSo return_runs
unfolding scan scanned expanded piece_count any_split any_repeat leaf_text matched lines digits digits_within
    text_lines output
return_runs_print = (refl, (refl, (refl, (refl, (refl, (refl, (refl, (refl, tt))))))))
