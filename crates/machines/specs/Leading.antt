-- Where a text leads among the states that were found, and the stages of finding them: what the laws of a table speak
-- of.
use Rattle.std.specs.Prelude.{ℕ, ◌+◌, ◌*◌, ◌<◌, ◌≡◌, List, [], ◌∷◌, ◌++◌, length, get_or}
use Rattle.language.specs.Tree.{Tree}
use Rattle.tree.specs.Leaf.{Leaf}
use Rattle.machines.specs.Explored.{NothingAfter, OneState, tried, Explored}

module _ (classes : List ℕ) (t : Tree Leaf) where
  -- the text w leads to state s: state 0 where nothing is left, else the state of the text i that it is one with
  pub data LeadsTo (texts : List (List ℕ)) (w : List ℕ) (s : ℕ) : Type 0 where
    nowhere : s ≡ 0 → NothingAfter classes t w → LeadsTo texts w s
    to_state : (i : ℕ) → i < length texts → s ≡ 1 + i → OneState classes t (get_or texts i []) w → LeadsTo texts w s

  -- the text w, tried where `texts` are found, gives the entry, and the texts that are found then
  pub data Gives (texts : List (List ℕ)) (w : List ℕ) : (later : List (List ℕ)) → (entry : ℕ) → Type 0 where
    nothing : NothingAfter classes t w → Gives texts w texts 0
    known : (NothingAfter classes t w → ⊥) → (i : ℕ) → i < length texts → OneState classes t (get_or texts i []) w
        → Gives texts w texts (1 + i)
    new : (NothingAfter classes t w → ⊥)
        → ((i : ℕ) → i < length texts → OneState classes t (get_or texts i []) w → ⊥)
        → Gives texts w (texts ++ (w ∷ [])) (1 + length texts)

  -- what was found before the last text was tried, and what that one gave
  pub record BeforeLast (firsts : List ℕ) (texts : List (List ℕ)) (entries : List ℕ) : Type 0 where
    pub earlier : List (List ℕ)
    pub front : List ℕ
    pub entry : ℕ
    pub explored : Explored classes t firsts earlier front
    pub to_try : length front < length earlier * length firsts
    pub gives : Gives earlier (tried classes t firsts earlier (length front)) texts entry
    pub is : entries ≡ front ++ (entry ∷ [])

  -- what was found when n texts were tried, and what came after
  pub record Stage (firsts : List ℕ) (texts : List (List ℕ)) (entries : List ℕ) (n : ℕ) : Type 0 where
    pub earlier : List (List ℕ)
    pub later : List (List ℕ)
    pub front : List ℕ
    pub rest : List ℕ
    pub explored : Explored classes t firsts earlier front
    pub count : length front ≡ n
    pub texts_are : texts ≡ earlier ++ later
    pub entries_are : entries ≡ front ++ rest
