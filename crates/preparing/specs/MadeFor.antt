-- What making a list's rows for a call with class records promises: the rows are those of the list's tree, and there is
-- a class record for each class leaf; or which of the two refusals it is.
use Rattle.std.specs.Prelude.{ℕ, ◌*◌, ◌/◌, ◌≤◌, ◌<◌, ◌≡◌, List, Option, Some, Result, Ok, Err, ok_or, length}
use Rattle.std.proofs.Common.{subst, arith}
use Rattle.language.specs.Tree.{Tree}
use Rattle.tree.specs.Leaf.{Leaf}
use Rattle.tree.specs.Layout.{class_record_size}
use Rattle.tree.specs.Records.{class_count, Good}
use Rattle.tree.specs.RefusalNumbers.{list_not_good, class_buffer_too_short}
use Rattle.tree.specs.Refusing.{refusal_number}
use Rattle.tree.specs.declared.counted.Counts.{Counts}
use Rattle.tree.specs.declared.refusal.Refusal.{Refusal}
use Rattle.tree.specs.declared.refusal.Refusal.TheVariants.{ListNotGood}
use Rattle.lists.specs.Readback.{good_unique}
use Rattle.deciding.specs.Judged.{GoodWith}
use Rattle.deciding.specs.DecideLaws.{none_refused}
use Rattle.tables.specs.Tables.{Prepared, Roomy, Ready}
use Rattle.preparing.specs.Made.{PreparedList}

-- the list is good with these counts, there is a class record for each class leaf, and the rows are those of its tree
pub record ReadyFor (list classes : List ℕ) (counts : Counts) (rows : List ℕ) : Type 0 where
  pub known : GoodWith list counts.records counts.pieces counts.classes
  pub classed : (t : Tree Leaf) → Good list t → class_record_size * class_count t ≤ length classes
  pub roomy : Roomy counts.pieces rows
  pub prepared : (t : Tree Leaf) → Good list t → Prepared t rows counts.pieces

-- why a list is refused, by the number of the refusal: it is not good; or it is, and some class leaf has no record
pub data RefusedFor (list classes : List ℕ) : ℕ → Type 0 where
  not_good : ((t : Tree Leaf) → Good list t → ⊥) → RefusedFor list classes list_not_good
  too_few_classes : (t : Tree Leaf) × Good list t × (length classes < class_record_size * class_count t)
      → RefusedFor list classes class_buffer_too_short

-- the answer fits the list and the class records
abbrev pub FitsFor : (list classes : List ℕ) → Result Counts Refusal → (rows : List ℕ) → Type 0
FitsFor list classes (Ok counts) rows = ReadyFor list classes counts rows
FitsFor list classes (Err refusal) rows = RefusedFor list classes (refusal_number refusal)

-- the promise of making a list's rows for class records: the answer fits
pub record PreparedFor (list classes : List ℕ) (answer : Result Counts Refusal) (rows : List ℕ) : Type 0 where
  pub fits : FitsFor list classes answer rows

-- where it is made, the list has a tree with these counts
pub told_tree : {list classes rows : List ℕ} {counts : Counts} → PreparedFor list classes (Ok counts) rows
    → GoodWith list counts.records counts.pieces counts.classes
told_tree made = made.fits.known

-- there is a class record for each class leaf of whatever tree the list is that of
pub told_classed : {list classes rows : List ℕ} {counts : Counts} → PreparedFor list classes (Ok counts) rows
    → (t : Tree Leaf) → Good list t → class_record_size * class_count t ≤ length classes
told_classed made = made.fits.classed

-- the rows are those of that tree
pub told_prepared : {list classes rows : List ℕ} {counts : Counts} → PreparedFor list classes (Ok counts) rows
    → (t : Tree Leaf) → Good list t → Prepared t rows counts.pieces
told_prepared made = made.fits.prepared

-- and are ready
pub told_ready : {list classes rows : List ℕ} {counts : Counts} → PreparedFor list classes (Ok counts) rows
    → Ready rows counts.pieces
told_ready made = record {
  roomy = made.fits.roomy;
  of_tree = (made.fits.known.tree, made.fits.prepared made.fits.known.tree made.fits.known.is_good);
}

-- where it is refused, for one of the two reasons
pub told_refused : {list classes rows : List ℕ} {refusal : Refusal} → PreparedFor list classes (Err refusal) rows
    → RefusedFor list classes (refusal_number refusal)
told_refused made = made.fits

-- a list that is decided to be good is ready for as many class records as it has class leaves
pub ready_for : {list classes rows : List ℕ} (counts : Counts) → PreparedList list (Some counts) rows
    → counts.classes ≤ length classes / class_record_size → PreparedFor list classes (Ok counts) rows
ready_for {list} {classes} counts made enough =
    let known = made.judged.fits in
    record {
      fits = record {
        known = known;
        classed = λ t is_good. subst (λ (s : Tree Leaf). class_record_size * class_count s ≤ length classes)
            (good_unique list known.tree t known.is_good is_good) (omega (arith, known.classes_are));
        roomy = made.rows_fits.0;
        prepared = made.rows_fits.1;
      };
    }

-- and is refused for fewer
pub few_for : {list classes rows : List ℕ} (counts : Counts) → PreparedList list (Some counts) rows
    → length classes / class_record_size < counts.classes → RefusedFor list classes class_buffer_too_short
few_for counts made few =
    let known = made.judged.fits in
    too_few_classes (known.tree, known.is_good, omega (arith, known.classes_are))

-- one that is not good is refused for that
pub not_good_for : {list classes rows : List ℕ} {refusal : Refusal} (answer : Option Counts)
    → PreparedList list answer rows → Err refusal ≡ ok_or answer ListNotGood
    → PreparedFor list classes (Err refusal) rows
not_good_for {list} {classes} answer made e =
    let none = none_refused answer made.judged e in
    record { fits = subst (λ (r : Refusal). RefusedFor list classes (refusal_number r)) none.0 (not_good none.1) }
