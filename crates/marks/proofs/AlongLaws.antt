-- Steps along many bytes of a good list: each is made from marks and makes marks, so none after the first can be
-- refused, and where nothing is left or something is refused, one more byte changes nothing.
use Rattle.std.specs.Prelude.{ℕ, ◌+◌, ◌≤◌, ◌<◌, ◌≡◌, refl, Bool, true, List, [], ◌∷◌, ◌++◌, length, get_or, take, drop}
use Rattle.std.proofs.Common.{add-one, arith, sym, ap, subst, ◌∙◌, append_assoc, append-nil, length-append, take-append-drop, take_all, take-suc, take_at, drop_at}
use Rattle.std.proofs.Math.Logic.Iff
use Rattle.language.specs.Tree.{Tree}
use Rattle.language.specs.Automaton.{accepting, States}
use Rattle.language.specs.Models.{alike_models, models_alike}
use Rattle.tree.specs.RefusalNumbers.{list_not_good, too_few_words, words_not_marks, class_buffer_too_short}
use Rattle.tree.specs.Leaf.{Leaf}
use Rattle.tree.specs.Records.{piece_count}
use Rattle.tree.specs.Pieces.{cut_up}
use Rattle.tables.specs.Words.{Bit, Holds, SetOf}
use Rattle.tables.specs.Plan.{top_of}
use Rattle.closing.specs.BitsOfWords.Bits.{Tells}
use Rattle.closing.specs.BitsOfWords.Zero.{AllZero}
use Rattle.closing.specs.BitsOfWords.AllZero.{zero_holds}
use Rattle.stepping.specs.Hold.{Hold, MarksOf}
use Rattle.tables.specs.Tables.{Prepared}
use Rattle.stepping.specs.Inner.{Running, Advanced, answer_told, told_exactly}
use Rattle.stepping.specs.Texts.{all_words}
use Rattle.marks.specs.Answer.{MarksNumbers, marking}
use Rattle.marks.specs.Promise.{RefusedUnchanged, IsNotGood, HasTooFewClasses, TooFew, AreNotMarks, Steps, step_not_good, step_too_few_classes, step_too_few, step_not_marks, stepped}
use Rattle.marks.specs.StepsEach.{stay_not_good, stay_too_few_classes, stay_too_few, stay_not_marks, stayed, StepsEach, no_byte, one_more}
use Rattle.marks.specs.Along.{Steppable, ToldOf, Walkable, WentAlong}

-- what the bit of the last state of piece 0 and the words of the pieces tell
pub told_by : {t : Tree Leaf} {rows words : List ℕ} {count : ℕ} {yes' nothing : Bool}
    (prepared : Prepared t rows count) → MarksOf t words
    → (top : ℕ) → top ≡ top_of rows 0 → Tells (Bit (get_or words 0 0) top) yes' → Tells (AllZero count words) nothing
    → ToldOf t words yes' nothing
told_by {t} {words = words} {yes' = yes'} {nothing = nothing} prepared marks top top-is accepts zeros = record {
  answer = answer_told prepared words (SetOf (cut_up t) words) yes'
      (alike_models (cut_up t) (Holds (cut_up t) words) marks.agreeing) top top-is accepts;
  left = rw (← prepared.counted) (told_exactly nothing zeros);
}

-- marks hold the set that they hold
still : (t : Tree Leaf) (words : List ℕ) → MarksOf t words → Hold t (SetOf (cut_up t) words) words words
still t words marks = record {
  marks = alike_models (cut_up t) (Holds (cut_up t) words) marks.agreeing;
  clean = marks.clean;
  others = refl;
  same_length = refl;
}

-- words that hold a set are marks
pub hold_marks : {t : Tree Leaf} {X : States} {before after : List ℕ} → Hold t X before after → MarksOf t after
hold_marks {t} {X} {after = after} hold = record {
  clean = hold.clean;
  agreeing = models_alike (cut_up t) (Holds (cut_up t) after) X hold.marks;
}

module _ {list classes : List ℕ} {t : Tree Leaf} where
  -- with no byte, what is told of the marks as they are
  pub each_none : {words : List ℕ} {yes' nothing : Bool} → Steppable list classes t words → ToldOf t words yes' nothing
      → StepsEach list classes words [] words (marking yes' nothing)
  each_none {words} able told = no_byte (stayed (record {
    made = record {
      t = t;
      good = able.good;
      classed = able.classed;
      enough = able.enough;
      hold = still t words able.marks;
      marks = refl;
      answer = told.answer;
      left = told.left;
    };
    from_marks = able.marks;
  }))

  module _ {byte : ℕ} {words later : List ℕ} {yes' nothing : Bool} (able : Steppable list classes t words)
      (went : Advanced classes t byte words later yes' nothing) where
    -- one step, as it is promised
    pub step_made : Steps list classes byte words later (marking yes' nothing)
    step_made = stepped (record {
      made = record {
        t = t;
        good = able.good;
        classed = able.classed;
        enough = able.enough;
        hold = went.hold;
        marks = refl;
        answer = went.answer;
        left = went.left;
      };
      from_marks = able.marks;
    })

    -- it leaves words from which a step is not refused
    pub still_steppable : Steppable list classes t later
    still_steppable = record {
      good = able.good;
      classed = able.classed;
      enough = omega (arith, able.enough, went.hold.same_length);
      marks = hold_marks went.hold;
    }

    -- and tells of them
    pub step_told : ToldOf t later yes' nothing
    step_told = record {
      answer = Iff.trans went.answer
          (Iff.trans (Iff.symm (went.hold.marks accepting tt))
          ((still t later (hold_marks went.hold)).marks accepting tt));
      left = went.left;
    }

  -- where nothing is left, a step leaves nothing and tells the same
  pub zero_step : {words : List ℕ} {yes' nothing : Bool} → Steppable list classes t words
      → ToldOf t words yes' nothing
      → nothing ≡ true → (byte : ℕ) → Steps list classes byte words words (marking yes' nothing)
  zero_step {words} able told says byte =
      let x = cut_up t in
      let zeros : AllZero (piece_count t) words = told.left.0 says in
      let none = zero_holds x words (rw (all_words t) zeros) in
      step_made able (record {
        hold = record {
          marks = λ q has. (
            λ held. absurd (none q has held),
            λ (p, (from, (r, there, is, marked), reads), path). absurd (none r there marked),
          );
          clean = able.marks.clean;
          others = refl;
          same_length = refl;
        };
        answer = (
          λ e. let (q, has, is, held) = told.answer.0 e in absurd (none q has held),
          λ (p, (from, (r, there, is, marked), reads), path). absurd (none r there marked),
        );
        left = told.left;
      })

-- a step that changes nothing and gives back the same, along every byte, may be made along any number of bytes
pub each_repeated : {list classes before w after : List ℕ} {n : MarksNumbers} → StepsEach list classes before w after n
    → ((byte : ℕ) → Steps list classes byte after after n) → (v : List ℕ)
    → StepsEach list classes before (w ++ v) after n
each_repeated {list} {classes} {before} {w} {after} {n} each again [] =
    subst (λ (u : List ℕ). StepsEach list classes before u after n) (sym (append-nil w)) each
each_repeated {list} {classes} {before} {w} {after} {n} each again (byte ∷ v) =
    subst (λ (u : List ℕ). StepsEach list classes before u after n) (append_assoc w (byte ∷ []) v)
    (each_repeated (one_more each (again byte)) again v)

module _ {list classes words : List ℕ} {n : MarksNumbers} where
  -- so a list that is not good is refused along any number of bytes
  pub each_not_good : RefusedUnchanged list_not_good (IsNotGood list) words words n → (w : List ℕ)
      → StepsEach list classes words w words n
  each_not_good a = each_repeated (no_byte (stay_not_good a)) (λ byte. step_not_good a)

  -- so are too few class records
  pub each_too_few_classes : RefusedUnchanged class_buffer_too_short (HasTooFewClasses list classes) words words n
      → (w : List ℕ) → StepsEach list classes words w words n
  each_too_few_classes a = each_repeated (no_byte (stay_too_few_classes a)) (λ byte. step_too_few_classes a)

  -- too few words
  pub each_too_few : RefusedUnchanged too_few_words (TooFew list classes words) words words n → (w : List ℕ)
      → StepsEach list classes words w words n
  each_too_few a = each_repeated (no_byte (stay_too_few a)) (λ byte. step_too_few a)

  -- and words that are no marks
  pub each_not_marks : RefusedUnchanged words_not_marks (AreNotMarks list classes words) words words n → (w : List ℕ)
      → StepsEach list classes words w words n
  each_not_marks a = each_repeated (no_byte (stay_not_marks a)) (λ byte. step_not_marks a)

-- texts with a last byte each are the same where their bytes are
pub last_same : (u v : List ℕ) (b c : ℕ) → u ++ (b ∷ []) ≡ v ++ (c ∷ []) → (u ≡ v) × (b ≡ c)
last_same u v b c e =
    let long : length v ≡ length u =
    omega (arith, ap length e, length-append u (b ∷ []), length-append v (c ∷ [])) in (
      sym (take_at u (b ∷ []) (length u) refl) ∙ ap (take (length u)) e ∙ take_at v (c ∷ []) (length u) long,
      ap (λ (l : List ℕ). get_or l 0 0)
          (sym (drop_at u (b ∷ []) (length u) refl) ∙ ap (drop (length u)) e ∙ drop_at v (c ∷ []) (length u) long),
    )

-- the step along a single byte
pub each_single : {list classes before after : List ℕ} {byte : ℕ} {n : MarksNumbers}
    → StepsEach list classes before (byte ∷ []) after n → Steps list classes byte before after n
each_single {list} {classes} {before} {byte = byte} each = go each refl
  where
    nowhere : {w after : List ℕ} {n : MarksNumbers} → StepsEach list classes before w after n → w ≡ [] → after ≡ before
    nowhere (no_byte stays) e = refl
    nowhere (one_more {w} {byte = b} each step) e =
        absurd (omega (arith, ap length e, length-append w (b ∷ [])))

    go : {w after : List ℕ} {n : MarksNumbers} → StepsEach list classes before w after n → w ≡ byte ∷ []
        → Steps list classes byte before after n
    go (no_byte stays) e = absurd (omega (arith, ap length e))
    go {n = n} (one_more {w} {later = later} {byte = b} each step) e =
        let (none, same) = last_same w [] b byte e in
        subst (λ (c : ℕ). Steps list classes c before later n) same
        (subst (λ (l : List ℕ). Steps list classes b l later n) (nowhere each none) step)

-- so a step can be made in them
pub walkable_runs : {rows words : List ℕ} {count : ℕ}
    → Walkable rows count words
    → Running rows count words
walkable_runs w = record { ready = w.ready; enough = w.enough; clean = w.marks.clean }

-- and leaves such words
pub walkable_next : {rows words later classes : List ℕ} {count byte : ℕ} {yes' nothing : Bool}
    (w : Walkable rows count words)
    → Advanced classes w.ready.of_tree.0 byte words later yes' nothing
    → Walkable rows count later
walkable_next w went = record {
  ready = w.ready;
  enough = omega (arith, w.enough, went.hold.same_length);
  marks = hold_marks went.hold;
}

module _ {list classes : List ℕ} {t : Tree Leaf} {before : List ℕ} where
  -- along no byte
  pub went_none : {yes' nothing : Bool} → Steppable list classes t before → ToldOf t before yes' nothing
      → WentAlong list classes t before [] before yes' nothing
  went_none able told = record { each = each_none able told; able = able; told = told }

  -- along one more
  pub went_next : {w after later : List ℕ} {byte : ℕ} {yes' nothing yes-later nothing-later : Bool}
      → WentAlong list classes t before w after yes' nothing
      → Advanced classes t byte after later yes-later nothing-later
      → WentAlong list classes t before (w ++ (byte ∷ [])) later yes-later nothing-later
  went_next so_far went = record {
    each = one_more so_far.each (step_made so_far.able went);
    able = still_steppable so_far.able went;
    told = step_told so_far.able went;
  }

  -- where nothing is left, along any others
  pub went_idle : {w after : List ℕ} {yes' nothing : Bool} → WentAlong list classes t before w after yes' nothing
      → nothing ≡ true → (v : List ℕ) → StepsEach list classes before (w ++ v) after (marking yes' nothing)
  went_idle so_far says v = each_repeated so_far.each (zero_step so_far.able so_far.told says) v

module _ {list classes : List ℕ} {t : Tree Leaf} {before : List ℕ} (bytes : List ℕ) (i : ℕ) {after : List ℕ}
    {yes' nothing : Bool} (so_far : WentAlong list classes t before (take i bytes) after yes' nothing) where
  -- along the first i bytes, and then the next
  pub went_further : i < length bytes → {later : List ℕ} {yes-later nothing-later : Bool}
      → Advanced classes t (get_or bytes i 0) after later yes-later nothing-later
      → WentAlong list classes t before (take (i + 1) bytes) later yes-later nothing-later
  went_further inside {later} {yes-later} {nothing-later} went =
      subst (λ (w : List ℕ). WentAlong list classes t before w later yes-later nothing-later)
      (sym (ap (λ (n : ℕ). take n bytes) (add-one i) ∙ take-suc bytes i 0 inside)) (went_next so_far went)

  -- along the first i bytes, where nothing is left: so along all
  pub went_rest : nothing ≡ true → StepsEach list classes before bytes after (marking yes' nothing)
  went_rest says =
      subst (λ (w : List ℕ). StepsEach list classes before w after (marking yes' nothing)) (take-append-drop i bytes)
      (went_idle so_far says (drop i bytes))

  -- along the first i bytes, which are all
  pub went_all : length bytes ≤ i → StepsEach list classes before bytes after (marking yes' nothing)
  went_all past =
      subst (λ (w : List ℕ). StepsEach list classes before w after (marking yes' nothing)) (take_all i bytes past)
      so_far.each
