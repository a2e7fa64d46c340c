-- Going over the states of a word one by one, and picking those of which a test says that they are as they should be.
use Rattle.std.specs.Prelude.{ℕ, ◌-◌, ◌≡◌, refl, Bool, true, false, ◌⊎◌, ◌↔◌, List}
use Rattle.std.proofs.Common.{sym, subst, subst₂, inl, inr, ⊎_elim}
use Rattle.std.proofs.Math.Decide.{ℕ_discrete}
use Rattle.std.specs.Int.Bits.{bit_and}
use Rattle.tree.specs.Leaf.{InClass}
use Rattle.tables.specs.Words.{Bit}
use Rattle.tables.specs.Plan.{byte_of, class_of}
use Rattle.closing.specs.BitsOfWords.Bits.{dec_bit, bit_zero, Tells}
use Rattle.closing.specs.BitsOfWords.LowestBit.{Lowest}

-- of the states in w that are no longer in rest, those of which P holds are the bits of r
pub record BitsPicked (P : ℕ → Type 0) (w rest r : ℕ) : Type 0 where
  pub among : (i : ℕ) → Bit rest i → Bit w i
  pub exactly : (j : ℕ) → Bit r j ↔ (Bit w j × (Bit rest j → ⊥) × P j)

-- of the states in w that are no longer in rest, a test answered yes for those that are the bits of r, and no for the
-- others
pub record PickedBy (Answers : ℕ → Bool → Type 0) (w rest r : ℕ) : Type 0 where
  pub among : (i : ℕ) → Bit rest i → Bit w i
  pub yes_for : (j : ℕ) → Bit r j → Bit w j × (Bit rest j → ⊥) × Answers j true
  pub no_for : (j : ℕ) → Bit w j → (Bit rest j → ⊥) → (Bit r j → ⊥) → Answers j false

-- at first none are picked
pub picked_by_none : (Answers : ℕ → Bool → Type 0) (w : ℕ) → PickedBy Answers w w 0
picked_by_none Answers w = record {
  among = λ i b. b;
  yes_for = λ j b. absurd (bit_zero j b);
  no_for = λ j b gone none. absurd (gone b);
}

-- a test answers yes or no
yes_or_no : (test : Bool) → (test ≡ true) ⊎ (test ≡ false)
yes_or_no true = inl refl
yes_or_no false = inr refl

-- the lowest state that is left is picked where the test says so
pub picked_by_more : {Answers : ℕ → Bool → Type 0} {w rest rest' r r' s : ℕ} {test : Bool} → PickedBy Answers w rest r
    → Lowest rest s → Answers s test → ((j : ℕ) → Bit r' j ↔ (Bit r j ⊎ ((j ≡ s) × (test ≡ true))))
    → rest' ≡ bit_and rest (rest - 1) → PickedBy Answers w rest' r'
picked_by_more {Answers} {w} {rest} {r' = r'} {s = s} {test = test} so_far lowest said sets takes =
    subst (λ (m : ℕ). PickedBy Answers w m r') (sym takes) record {
      among = λ i b. so_far.among i ((lowest.left i).0 b).0;
      yes_for = λ j c. ⊎_elim
          (λ d. let (b, gone, says) = so_far.yes_for j d in (b, λ l. gone ((lowest.left j).0 l).0, says))
          (λ (e, said_yes). (
            subst (λ (i : ℕ). Bit w i) (sym e) (so_far.among s lowest.is_set),
            λ l. ((lowest.left j).0 l).1 e,
            subst₂ Answers (sym e) said_yes said,
          ))
          ((sets j).0 c);
      no_for = λ j b gone none. elim (ℕ_discrete j s) [
        | yes e ↦ ⊎_elim
            (λ said_yes. absurd (none ((sets j).1 (inr (e, said_yes)))))
            (λ said_no. subst₂ Answers (sym e) said_no said)
            (yes_or_no test)
        | no other ↦ so_far.no_for j b (λ l. gone ((lowest.left j).1 (l, other))) (λ d. none ((sets j).1 (inl d)))
      ];
    }

-- told with no state left
pub picked_by_all : {Answers : ℕ → Bool → Type 0} {w rest r : ℕ} → rest ≡ 0 → PickedBy Answers w rest r
    → PickedBy Answers w 0 r
picked_by_all {Answers} {w} {r = r} e so_far = subst (λ (m : ℕ). PickedBy Answers w m r) e so_far

-- a test that tells whether P holds picks the states of which P holds
pub picked_by : {Answers : ℕ → Bool → Type 0} (P : ℕ → Type 0) {w r : ℕ} → PickedBy Answers w 0 r
    → ((i : ℕ) (test : Bool) → Bit w i → Answers i test → Tells (P i) test) → BitsPicked P w 0 r
picked_by P {w} {r} picked tells = record {
  among = picked.among;
  exactly = λ j. (
    λ b. let (among, gone, says) = picked.yes_for j b in (among, gone, (tells j true among says).holds refl),
    λ (among, gone, holds). elim (dec_bit r j) [
      | yes b ↦ b
      | no none ↦ absurd ((tells j false among (picked.no_for j among gone none)).fails refl holds)
    ],
  );
}

-- at first none are picked
pub picked_none : (P : ℕ → Type 0) (w : ℕ) → BitsPicked P w w 0
picked_none P w =
    record { among = λ i b. b; exactly = λ j. (λ b. absurd (bit_zero j b), λ (b, gone, _). absurd (gone b)) }

-- a test that tells of what holds says yes
says_yes : {P : Type 0} (test : Bool) → Tells P test → P → test ≡ true
says_yes true told p = refl
says_yes false told p = absurd (told.fails refl p)

-- the lowest state that is left is picked where the test says so
pub picked_more : {P : ℕ → Type 0} {w rest rest' r r' s : ℕ} {test : Bool} → BitsPicked P w rest r → Lowest rest s
    → Tells (P s) test → ((j : ℕ) → Bit r' j ↔ (Bit r j ⊎ ((j ≡ s) × (test ≡ true)))) → rest' ≡ bit_and rest (rest - 1)
    → BitsPicked P w rest' r'
picked_more {P} {w} {rest} {r' = r'} {s = s} {test = test} so_far lowest told sets takes =
    subst (λ (m : ℕ). BitsPicked P w m r') (sym takes) record {
      among = λ i b. so_far.among i ((lowest.left i).0 b).0;
      exactly = λ j. (
        λ c. ⊎_elim
            (λ d. let (b, gone, at) = (so_far.exactly j).0 d in (b, λ l. gone ((lowest.left j).0 l).0, at))
            (λ (e, says). (
              subst (λ (i : ℕ). Bit w i) (sym e) (so_far.among s lowest.is_set),
              λ l. ((lowest.left j).0 l).1 e,
              subst P (sym e) (told.holds says),
            ))
            ((sets j).0 c),
        λ (b, gone, at). (sets j).1 (elim (ℕ_discrete j s) [
          | yes e ↦ inr (e, says_yes test told (subst P e at))
          | no other ↦ inl ((so_far.exactly j).1 (b, λ l. gone ((lowest.left j).1 (l, other)), at))
        ]),
      );
    }

-- told with no state left
pub picked_all : {P : ℕ → Type 0} {w rest r : ℕ} → rest ≡ 0 → BitsPicked P w rest r → BitsPicked P w 0 r
picked_all {P} {w} {r = r} e so_far = subst (λ (m : ℕ). BitsPicked P w m r) e so_far

-- the states of w whose byte in the row of the piece is b
abbrev pub PickedByByte : List ℕ → (piece b w rest r : ℕ) → Type 0
PickedByByte rows piece b w rest r = BitsPicked (λ i. byte_of rows piece i ≡ b) w rest r

-- the states of w whose class, by the row of the piece, b lies in
abbrev pub PickedByClass : (rows classes : List ℕ) → (piece b w rest r : ℕ) → Type 0
PickedByClass rows classes piece b w rest r = BitsPicked (λ i. InClass classes (class_of rows piece i) b) w rest r
