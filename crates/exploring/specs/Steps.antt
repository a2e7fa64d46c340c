-- From one entry to the next, until all states are found or there are too many.
use Rattle.std.specs.Prelude.{ℕ, ◌+◌, ◌-◌, ◌*◌, ◌/◌, ◌%◌, ◌≤◌, ◌<◌, ◌≡◌, refl, List, ◌∷◌, [], ◌++◌, get_or, length, set, take}
use Rattle.std.proofs.Common.{sym, ap, ◌∙◌, subst, arith, mul-le-mul_left, mul_comm, add-mul, one-mul, div-lt_iff_lt-mul, mod-lt, length-set, length-append, length-take-le, get_or-take}
use Rattle.std.proofs.Math.Decide.{dec_lt}
use Rattle.language.specs.Tree.{Tree}
use Rattle.tree.specs.Leaf.{Leaf}
use Rattle.tables.specs.Tables.{Prepared, Holding}
use Rattle.machines.specs.Explored.{OneState, Explored, NothingAfter, tried, at_start, to_nothing, to_known, to_new}
use Rattle.exploring.specs.Keys.{Keys}
use Rattle.exploring.specs.MaskedWords.{one_state, same_under}
use Rattle.exploring.specs.Room.{
  marks_of,
  entries_from,
  FoundKept,
  StatesNumbered,
  with_state,
  EntryWritten,
  FoundAll,
  TooMany,
  no_state,
  new_state,
}
use Rattle.exploring.specs.FindingStates.{Progress, Leading, Exploring}
use Rattle.exploring.specs.Keeping.{kept_entry, numbered_state, kept_state, numbered_next}
use Rattle.exploring.specs.Leads.{holding_front}

-- how the words of the room are shared out
pub room_parts : (count columns most : ℕ) → (1 + count + columns) * most ≡ entries_from count most + columns * most
room_parts count columns most =
    add-mul (1 + count) columns most
    ∙ ap (λ (n : ℕ). n + columns * most) (add-mul 1 count most ∙ ap (λ (n : ℕ). n + count * most) (one-mul most))

-- an entry of a state that is there has its word
pub entry_inside : (states columns most : ℕ) {p : ℕ} → states ≤ most → p < states * columns → p < columns * most
entry_inside states columns most few inside =
    omega (arith, mul-le-mul_left {m = states} {n = most} columns few, mul_comm columns states)

-- and its state is there
state_inside : (states columns p : ℕ) → 1 ≤ columns → p < states * columns → p / columns < states
state_inside states columns p some inside =
    (div-lt_iff_lt-mul {k = columns} {x = p} {y = states} (omega arith)).1 inside

-- at first the room holds the state of the empty text, and it can be found again
module _ {rows : List ℕ} {count : ℕ} {masks : List ℕ} (keys : Keys rows count masks)
    {classes words : List ℕ}
    (begun : (t : Tree Leaf) → Prepared t rows count → Holding classes t [] words)
    (most : ℕ) (room : List ℕ) (some : 1 ≤ most) (enough : count ≤ length words)
    (fits : entries_from count most ≤ length room) {after : List ℕ}
    (put : after ≡ with_state masks count most room 0 words) where
  pub numbered_first : StatesNumbered masks count most 1 after
  numbered_first = subst (StatesNumbered masks count most 1) (sym put)
      (numbered_state masks count most room 0 words some enough fits
      (record { numbers = λ i low. absurd (omega arith) }))

  pub progress_first : (firsts : List ℕ) (t : Tree Leaf) → Prepared t rows count
      → Progress classes t firsts count most after 1 0
  progress_first firsts t prepared = record {
    texts = [] ∷ [];
    entries = [];
    explored = at_start;
    as_many = refl;
    so_far = refl;
    kept = subst (FoundKept classes t ([] ∷ []) [] count most) (sym put)
        (kept_state masks count most room 0 words some enough fits {texts = []} refl
        ((holding_front prepared words).1 (begun t prepared))
        (record { entries_kept = λ q low. absurd (omega arith); marks_kept = λ j low. absurd (omega arith) }));
  }

-- one entry more
module _ {t : Tree Leaf} {rows : List ℕ} {count : ℕ}
    (prepared : Prepared t rows count) {masks : List ℕ} (keys : Keys rows count masks)
    {classes : List ℕ} (bytes : List ℕ) (columns : ℕ) {most states p r : ℕ} {room words : List ℕ} (some : 1 ≤ columns)
    (enough : columns ≤ length bytes) (inside : p < states * columns)
    (so_far : Progress classes t (take columns bytes) count most room states p)
    (leads : Leading classes t (get_or so_far.texts (p / columns) []) (get_or bytes (p % columns) 0) masks count most
    states room words r) where
  abbrev firsts : List ℕ
  firsts = take columns bytes

  -- the text that is tried
  abbrev text : List ℕ
  text = get_or so_far.texts (p / columns) [] ++ (get_or bytes (p % columns) 0 ∷ [])

  all_firsts : length firsts ≡ columns
  all_firsts = length-take-le columns bytes enough

  tried_is : tried classes t firsts so_far.texts (length so_far.entries) ≡ text
  tried_is =
      ap (tried classes t firsts so_far.texts) so_far.so_far
      ∙ ap (λ (n : ℕ). get_or so_far.texts (p / n) [] ++ (get_or firsts (p % n) 0 ∷ [])) all_firsts
      ∙ ap (λ (b : ℕ). get_or so_far.texts (p / columns) [] ++ (b ∷ []))
      (get_or-take columns bytes (p % columns) 0 (mod-lt p (omega arith)))

  -- it is one that is to be tried
  to_try : length so_far.entries < length so_far.texts * length firsts
  to_try = rw (so_far.so_far, so_far.as_many, all_firsts) inside

  -- it leads to nothing or to a state that is there
  explored_old : r ≤ states → Explored classes t firsts so_far.texts (so_far.entries ++ (r ∷ []))
  explored_old old = elim (dec_lt 0 r) [
    | yes positive ↦
        let is : 1 + (r - 1) ≡ r = omega arith in
        let low : r - 1 < length so_far.texts = omega (arith, so_far.as_many) in
        subst (λ (n : ℕ). Explored classes t firsts so_far.texts (so_far.entries ++ (n ∷ []))) is
        (to_known so_far.explored to_try
        (subst (λ (v : List ℕ). NothingAfter classes t v → ⊥) (sym tried_is) (leads.some positive))
        (r - 1) low
        (subst (OneState classes t (get_or so_far.texts (r - 1) [])) (sym tried_is)
        (one_state prepared keys (so_far.kept.marks_kept (r - 1) low) leads.holding (leads.known positive old))))
    | no none ↦
        let is : 0 ≡ r = omega arith in
        subst (λ (n : ℕ). Explored classes t firsts so_far.texts (so_far.entries ++ (n ∷ []))) is
        (to_nothing so_far.explored to_try
        (subst (NothingAfter classes t) (sym tried_is) (leads.nothing (sym is))))
  ]

  -- or to a new one
  explored_new : states < r → StatesNumbered masks count most states room
      → Explored classes t firsts (so_far.texts ++ (text ∷ [])) (so_far.entries ++ (r ∷ []))
  explored_new new numbered =
      let is : 1 + length so_far.texts ≡ r = omega (arith, leads.within, so_far.as_many) in
      subst (λ (n : ℕ). Explored classes t firsts (so_far.texts ++ (text ∷ [])) (so_far.entries ++ (n ∷ []))) is
      (subst (λ (v : List ℕ). Explored classes t firsts (so_far.texts ++ (v ∷ []))
      (so_far.entries ++ ((1 + length so_far.texts) ∷ []))) tried_is
      (to_new so_far.explored to_try
      (subst (λ (v : List ℕ). NothingAfter classes t v → ⊥) (sym tried_is) (leads.some (omega arith)))
      (λ i low one. leads.new new numbered i (omega (arith, so_far.as_many))
      (same_under prepared keys (so_far.kept.marks_kept i low) leads.holding
      (subst (OneState classes t (get_or so_far.texts i [])) tried_is one)))))

  -- the entries are one more
  one_more : length (so_far.entries ++ (r ∷ [])) ≡ p + 1
  one_more = length-append so_far.entries (r ∷ []) ∙ omega (arith, so_far.so_far)

  -- so the room holds what was found with that entry, and with a state more where it is new
  pub progress_next : {after : List ℕ} {then : ℕ} → states ≤ most → r ≤ most
      → StatesNumbered masks count most states room → count ≤ length words → entries_from count most + p < length room
      → EntryWritten masks count most states p r room words after then
      → Progress classes t firsts count most after then (p + 1)
  progress_next {after} {then} few low numbered wide fits (no_state old is as_before) = record {
    texts = so_far.texts;
    entries = so_far.entries ++ (r ∷ []);
    explored = explored_old old;
    as_many = so_far.as_many ∙ sym as_before;
    so_far = one_more;
    kept = subst (FoundKept classes t so_far.texts (so_far.entries ++ (r ∷ [])) count most) (sym is)
        (kept_entry count most room p r fits (omega (arith, so_far.as_many)) so_far.so_far so_far.kept);
  }
  progress_next {after} {then} few low numbered wide fits (new_state new is more) = record {
    texts = so_far.texts ++ (text ∷ []);
    entries = so_far.entries ++ (r ∷ []);
    explored = explored_new new numbered;
    as_many = length-append so_far.texts (text ∷ []) ∙ omega (arith, so_far.as_many);
    so_far = one_more;
    kept = subst (FoundKept classes t (so_far.texts ++ (text ∷ [])) (so_far.entries ++ (r ∷ [])) count most) (sym is)
        (kept_state masks count most (set room (entries_from count most + p) r) states words (omega arith) wide
        (rw (length-set room (entries_from count most + p) r) (omega arith)) so_far.as_many
        ((holding_front prepared words).1 leads.holding)
        (kept_entry count most room p r fits (omega (arith, so_far.as_many)) so_far.so_far so_far.kept));
  }

  -- or there are more states than there is room for
  pub too_many : most ≤ states → states < r → StatesNumbered masks count most states room
      → TooMany classes t firsts most
  too_many full new numbered = record {
    texts = so_far.texts ++ (text ∷ []);
    entries = so_far.entries ++ (r ∷ []);
    explored = explored_new new numbered;
    more = omega (arith, length-append so_far.texts (text ∷ []), so_far.as_many);
  }

-- where all entries are there, all states were found
pub found_all : {classes : List ℕ} {t : Tree Leaf} (bytes : List ℕ) (columns : ℕ) {count most : ℕ} {room : List ℕ}
    {states p : ℕ} → columns ≤ length bytes → states ≤ most
    → Progress classes t (take columns bytes) count most room states p → p ≡ states * columns
    → FoundAll classes t (take columns bytes) count most room states
found_all bytes columns enough few done all = record {
  texts = done.texts;
  entries = done.entries;
  found = record {
    explored = done.explored;
    over = done.so_far ∙ all ∙ ap (λ (n : ℕ). n * columns) (sym done.as_many)
        ∙ ap (λ (n : ℕ). length done.texts * n) (sym (length-take-le columns bytes enough));
  };
  as_many = done.as_many;
  fit = few;
  kept = done.kept;
}

module _ {rows : List ℕ} {count : ℕ} {masks firsts : List ℕ} {columns most : ℕ}
    {room words : List ℕ} {states p : ℕ}
    (here : Exploring rows count masks firsts columns most room words states p) where
  -- the states' parts of the room
  pub states_fit : entries_from count most ≤ length room
  states_fit = omega (arith, room_parts count columns most, here.fits)

  -- the entries of the states that are there fit into a word
  pub entries_fit : states * columns ≤ length room
  entries_fit = omega (
    arith,
    room_parts count columns most,
    here.fits,
    mul-le-mul_left {m = states} {n = most} columns here.few,
    mul_comm columns states,
  )

  -- there is a word for each piece
  pub words_fit : count ≤ length words
  words_fit = omega (
    arith,
    here.all_words,
    here.ready.of_tree.1.counted,
    here.ready.of_tree.1.few,
  )

  -- an entry that is still to be written
  module _ (inside : p < states * columns) where
    pub entry_fits : entries_from count most + p < length room
    entry_fits = omega (
      arith,
      room_parts count columns most,
      here.fits,
      entry_inside states columns most here.few inside,
    )

    -- its state is there
    pub state_there : p / columns < states
    state_there = state_inside states columns p here.some inside

    -- and the room holds its marks
    pub state_held : {classes : List ℕ} {t : Tree Leaf}
        (so_far : Progress classes t (take columns firsts) count most room states p)
        → Holding classes t (get_or so_far.texts (p / columns) []) (marks_of count most room (p / columns))
    state_held so_far = so_far.kept.marks_kept (p / columns) (omega (arith, state_there, so_far.as_many))

    -- it is written
    pub exploring_next : {after later : List ℕ} {r then : ℕ} → r ≤ most → length after ≡ length room
        → length later ≡ length words → EntryWritten masks count most states p r room later after then
        → Exploring rows count masks firsts columns most after later then (p + 1)
    exploring_next {after} {later} {r} {then} low long as_long entered =
        let grows = more_states entered in
        record {
          ready = here.ready;
          some = here.some;
          enough = here.enough;
          few = grows.1;
          fits = omega (arith, here.fits, long);
          masks_room = here.masks_room;
          all_words = as_long ∙ here.all_words;
          not_past = omega (
            arith,
            mul-le-mul_left {m = states} {n = then} columns grows.0,
            mul_comm columns states,
            mul_comm columns then,
          );
          keys = here.keys;
          numbered = numbered_next here.few low here.numbered (omega (arith, words_fit, as_long)) entry_fits
              entered;
        }
      where
        more_states : EntryWritten masks count most states p r room later after then → (states ≤ then) × (then ≤ most)
        more_states (no_state old is as_before) = (omega arith, omega (arith, here.few))
        more_states (new_state new is more) = (omega arith, omega arith)
