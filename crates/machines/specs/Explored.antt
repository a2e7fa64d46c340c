-- The states of a table, found one after the other: from each state, in the order of their numbers, along the first
-- byte of each column, in the order of the columns.
use Rattle.std.specs.Prelude.{ℕ, ◌+◌, ◌*◌, ◌/◌, ◌%◌, ◌<◌, ◌≡◌, List, [], ◌∷◌, ◌++◌, length, get_or}
use Rattle.language.specs.Tree.{Tree}
use Rattle.language.specs.Automaton.{State, States, Started, After}
use Rattle.language.specs.TakenAsOne.{TakenAsOne}
use Rattle.tree.specs.Leaf.{Leaf, meaning}

module _ (classes : List ℕ) (t : Tree Leaf) where
  -- the marks of the plain simulation after a text
  abbrev pub MarksAfter : List ℕ → States
  MarksAfter w = After (meaning classes) t w (Started (meaning classes) t)

  -- no state is marked after a text
  abbrev pub NothingAfter : List ℕ → Type 0
  NothingAfter w = (p : State) → MarksAfter w p → ⊥

  -- two texts lead to the same state of a table
  abbrev pub OneState : (v w : List ℕ) → Type 0
  OneState v w = TakenAsOne (meaning classes) t (MarksAfter v) (MarksAfter w)

  -- the text that is tried after n others: a text that leads to a state, and the first byte of a column
  abbrev pub tried : (firsts : List ℕ) → (texts : List (List ℕ)) → (n : ℕ) → List ℕ
  tried firsts texts n = get_or texts (n / length firsts) [] ++ (get_or firsts (n % length firsts) 0 ∷ [])

  -- what was found so far: `texts` has for each state but 0 the first text that led to it, state 1 first, and `entries`
  -- says where the texts lead that were tried, those from state 1 first: to state 0 where nothing is left, else to a
  -- state that is there, or to a new one
  pub data Explored (firsts : List ℕ) : (texts : List (List ℕ)) → (entries : List ℕ) → Type 0 where
    at_start : Explored firsts ([] ∷ []) []
    to_nothing : {texts : List (List ℕ)} {entries : List ℕ} → Explored firsts texts entries
        → length entries < length texts * length firsts
        → NothingAfter (tried firsts texts (length entries))
        → Explored firsts texts (entries ++ (0 ∷ []))
    to_known : {texts : List (List ℕ)} {entries : List ℕ} → Explored firsts texts entries
        → length entries < length texts * length firsts
        → (NothingAfter (tried firsts texts (length entries)) → ⊥)
        → (i : ℕ) → i < length texts → OneState (get_or texts i []) (tried firsts texts (length entries))
        → Explored firsts texts (entries ++ ((1 + i) ∷ []))
    to_new : {texts : List (List ℕ)} {entries : List ℕ} → Explored firsts texts entries
        → length entries < length texts * length firsts
        → (NothingAfter (tried firsts texts (length entries)) → ⊥)
        → ((i : ℕ) → i < length texts → OneState (get_or texts i []) (tried firsts texts (length entries)) → ⊥)
        → Explored firsts (texts ++ (tried firsts texts (length entries) ∷ []))
        (entries ++ ((1 + length texts) ∷ []))

  -- all states were found: every text that is to be tried was
  pub record FoundAllStates (firsts : List ℕ) (texts : List (List ℕ)) (entries : List ℕ) : Type 0 where
    pub explored : Explored firsts texts entries
    pub over : length entries ≡ length texts * length firsts
