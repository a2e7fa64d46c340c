-- Where a part of a piece's tree stands in it: from which bit of the own word on its states are numbered, and from
-- which word below on its child pieces stand.
use Rattle.std.specs.Prelude.{ℕ, ◌+◌, ◌≤◌, ◌<◌, ◌≡◌, refl, ◌⊎◌, ◌↔◌, ◌++◌, get_or}
use Rattle.std.proofs.Common.{arith, sym, ap, ◌∙◌, subst, inl, inr, ⊎_elim}
use Rattle.std.proofs.Math.Logic.Iff
use Rattle.language.specs.Automaton.{State, start, accepting, left, right}
use Rattle.language.specs.Nested.{Nested, catenation, union, star, Has}
use Rattle.tables.specs.Words.{width, run}
use Rattle.closing.specs.BitsOfWords.Spots.{
  Spot,
  own,
  under,
  shift,
  spot,
  SpotWithin,
  spot_within,
  widths,
  getD_left,
  getD_right,
}

-- the states of x are numbered from i in the own word of whole, and the words of the child pieces below x stand from n
-- among those below whole
pub record PartSeat {A : Type 0} (whole x : Nested A) (i n : ℕ) : Type 0 where
  pub wide : i + width x ≤ width whole
  pub long : n + run x ≤ run whole
  pub same_widths : (o : ℕ) → o < run x → get_or (widths whole) (n + o) 0 ≡ get_or (widths x) o 0

-- a spot neither among k bits from i on nor among m words from n on
abbrev pub Outside : (i k n m : ℕ) → Spot → Type 0
Outside i k n m (own b) = (b < i) ⊎ (i + k ≤ b)
Outside i k n m (under o b) = (o < n) ⊎ (n + m ≤ o)

-- x stands at e in whole: the states of whole are those of x, at the spots of its seat, and states whose spots are
-- outside
pub record StandsAt {A : Type 0} (whole x : Nested A) (e : State → State) (i n : ℕ) : Type 0 where
  pub seat : PartSeat whole x i n
  pub has : (q : State) → Has whole (e q) ↔ Has x q
  pub spots : (q : State) → Has x q → spot whole (e q) ≡ shift i n (spot x q)
  pub apart : (q : State) → Has whole q → ((p : State) × (q ≡ e p)) ⊎ Outside i (width x) n (run x) (spot whole q)

-- a seat in a seat
pub seat_in : {A : Type 0} {whole x y : Nested A} {i n j m : ℕ} (i' n' : ℕ) → i' ≡ i + j → n' ≡ n + m
    → PartSeat whole x i n
    → PartSeat x y j m → PartSeat whole y i' n'
seat_in {whole = whole} {y = y} {i = i} {n = n} {j = j} {m = m} i' n' e f outer inner = record {
  wide = omega (arith, outer.wide, inner.wide);
  long = omega (arith, outer.long, inner.long);
  same_widths = λ o l. ap (λ (k : ℕ). get_or (widths whole) k 0) (omega arith)
      ∙ outer.same_widths (m + o) (omega (arith, inner.long)) ∙ inner.same_widths o l;
}

shift_shift : (s : Spot) (i n j m i' n' : ℕ) → i' ≡ i + j → n' ≡ n + m → shift i n (shift j m s) ≡ shift i' n' s
shift_shift (own b) i n j m i' n' e f = ap own (omega arith)
shift_shift (under o b) i n j m i' n' e f = ap (λ (k : ℕ). under k b) (omega arith)

outside_shift : (s : Spot) (i n j k m l i' n' : ℕ) → i' ≡ i + j → n' ≡ n + m → Outside j k m l s
    → Outside i' k n' l (shift i n s)
outside_shift (own b) i n j k m l i' n' e f = ⊎_elim (λ h. inl (omega arith)) (λ h. inr (omega arith))
outside_shift (under o b) i n j k m l i' n' e f = ⊎_elim (λ h. inl (omega arith)) (λ h. inr (omega arith))

outside_part : (s : Spot) (i k n l j k' m l' : ℕ) (i' n' : ℕ) → i' ≡ i + j → n' ≡ n + m → j + k' ≤ k → m + l' ≤ l
    → Outside i k n l s → Outside i' k' n' l' s
outside_part (own b) i k n l j k' m l' i' n' e f g h = ⊎_elim (λ o. inl (omega arith)) (λ o. inr (omega arith))
outside_part (under o b) i k n l j k' m l' i' n' e f g h = ⊎_elim (λ o. inl (omega arith)) (λ o. inr (omega arith))

-- a place in a place
pub place_in : {A : Type 0} {whole x y : Nested A} {e f : State → State} {i n j m : ℕ} (i' n' : ℕ) → i' ≡ i + j
    → n' ≡ n + m
    → StandsAt whole x e i n → StandsAt x y f j m → StandsAt whole y (λ p. e (f p)) i' n'
place_in {whole = whole} {x = x} {y = y} {e = e} {f = f} {i = i} {n = n} {j = j} {m = m} i' n' same-i same-n outer
    inner = record {
      seat = seat_in i' n' same-i same-n outer.seat inner.seat;
      has = λ q. Iff.trans (outer.has (f q)) (inner.has q);
      spots = λ q h. outer.spots (f q) ((inner.has q).1 h) ∙ ap (shift i n) (inner.spots q h)
          ∙ shift_shift (spot y q) i n j m i' n' same-i same-n;
      apart = λ q h. ⊎_elim (λ (p, at). within q p h at)
          (λ out. inr (outside_part (spot whole q) i (width x) n (run x) j (width y) m (run y) i' n' same-i same-n
          inner.seat.wide inner.seat.long out))
          (outer.apart q h);
    }
  where
    within : (q p : State) → Has whole q → q ≡ e p → ((p : State) × (q ≡ e (f p)))
        ⊎ Outside i' (width y) n' (run y) (spot whole q)
    within q p h at =
        let hp : Has x p = (outer.has p).0 (subst (Has whole) at h) in
        ⊎_elim (λ (r, on). inl (r, at ∙ ap e on))
        (λ out. inr (subst (Outside i' (width y) n' (run y)) (sym (ap (spot whole) at ∙ outer.spots p hp))
        (outside_shift (spot x p) i n j (width y) m (run y) i' n' same-i same-n out)))
        (inner.apart p hp)

-- a tree stands in itself
pub place_whole : {A : Type 0} (x : Nested A) → StandsAt x x (λ p. p) 0 0
place_whole x = record {
  seat = record {
    wide = omega arith;
    long = omega arith;
    same_widths =
        λ o l. ap (λ (k : ℕ). get_or (widths x) k 0) (omega arith);
  };
  has = λ q. Iff.rfl;
  spots = λ q h. sym (shift_none (spot x q));
  apart = λ q h. inl (q, refl);
}
  where
    shift_none : (s : Spot) → shift 0 0 s ≡ s
    shift_none (own b) = ap own (omega arith)
    shift_none (under o b) = ap (λ (k : ℕ). under k b) (omega arith)

before : (s : Spot) (i k n l i' k' n' l' : ℕ) → i + k ≤ i' → n + l ≤ n' → SpotWithin k l s
    → Outside i' k' n' l' (shift i n s)
before (own b) i k n l i' k' n' l' e f h = inl (omega arith)
before (under o b) i k n l i' k' n' l' e f h = inl (omega arith)

past : (s : Spot) (i n i' k' n' l' : ℕ) → i' + k' ≤ i → n' + l' ≤ n → Outside i' k' n' l' (shift i n s)
past (own b) i n i' k' n' l' e f = inr (omega arith)
past (under o b) i n i' k' n' l' e f = inr (omega arith)

-- the parts of a node
pub catenation_left : {A : Type 0} (x y : Nested A) → StandsAt (catenation x y) x left 1 0
catenation_left x y =
    record {
      seat =
          record {
            wide = omega arith;
            long = omega arith;
            same_widths =
                λ o l. ap (λ (k : ℕ). get_or (widths x ++ widths y) k 0) (omega arith) ∙ getD_left x y o l;
          };
      has = λ q. Iff.rfl;
      spots = λ q h. refl;
      apart = apart;
    }
  where
    apart : (q : State) → Has (catenation x y) q → ((p : State) × (q ≡ left p))
        ⊎ Outside 1 (width x) 0 (run x) (spot (catenation x y) q)
    apart start h = inr (inl (omega arith))
    apart accepting h = inr (inr (omega arith))
    apart (left q) h = inl (q, refl)
    apart (right q) h = inr (past (spot y q) (1 + width x) (run x) 1 (width x) 0 (run x) (omega arith) (omega arith))

pub catenation_right : {A : Type 0} (x y : Nested A) → StandsAt (catenation x y) y right (1 + width x) (run x)
catenation_right x y =
    record {
      seat = record { wide = omega arith; long = omega arith; same_widths = λ o l. getD_right x y o };
      has =
          λ q. Iff.rfl;
      spots = λ q h. refl;
      apart = apart;
    }
  where
    apart : (q : State) → Has (catenation x y) q → ((p : State) × (q ≡ right p))
        ⊎ Outside (1 + width x) (width y) (run x) (run y) (spot (catenation x y) q)
    apart start h = inr (inl (omega arith))
    apart accepting h = inr (inr (omega arith))
    apart (left q) h =
        inr (before (spot x q) 1 (width x) 0 (run x) (1 + width x) (width y) (run x) (run y) (omega arith) (omega arith)
        (spot_within x q h))
    apart (right q) h = inl (q, refl)

pub union_left : {A : Type 0} (x y : Nested A) → StandsAt (union x y) x left 1 0
union_left x y =
    record {
      seat =
          record {
            wide = omega arith;
            long = omega arith;
            same_widths =
                λ o l. ap (λ (k : ℕ). get_or (widths x ++ widths y) k 0) (omega arith) ∙ getD_left x y o l;
          };
      has = λ q. Iff.rfl;
      spots = λ q h. refl;
      apart = apart;
    }
  where
    apart : (q : State) → Has (union x y) q → ((p : State) × (q ≡ left p))
        ⊎ Outside 1 (width x) 0 (run x) (spot (union x y) q)
    apart start h = inr (inl (omega arith))
    apart accepting h = inr (inr (omega arith))
    apart (left q) h = inl (q, refl)
    apart (right q) h = inr (past (spot y q) (1 + width x) (run x) 1 (width x) 0 (run x) (omega arith) (omega arith))

pub union_right : {A : Type 0} (x y : Nested A) → StandsAt (union x y) y right (1 + width x) (run x)
union_right x y =
    record {
      seat = record { wide = omega arith; long = omega arith; same_widths = λ o l. getD_right x y o };
      has =
          λ q. Iff.rfl;
      spots = λ q h. refl;
      apart = apart;
    }
  where
    apart : (q : State) → Has (union x y) q → ((p : State) × (q ≡ right p))
        ⊎ Outside (1 + width x) (width y) (run x) (run y) (spot (union x y) q)
    apart start h = inr (inl (omega arith))
    apart accepting h = inr (inr (omega arith))
    apart (left q) h =
        inr (before (spot x q) 1 (width x) 0 (run x) (1 + width x) (width y) (run x) (run y) (omega arith) (omega arith)
        (spot_within x q h))
    apart (right q) h = inl (q, refl)

pub star_inside : {A : Type 0} (x : Nested A) → StandsAt (star x) x left 1 0
star_inside x =
    record {
      seat =
          record {
            wide = omega arith;
            long = omega arith;
            same_widths =
                λ o l. ap (λ (k : ℕ). get_or (widths x) k 0) (omega arith);
          };
      has = λ q. Iff.rfl;
      spots = λ q h. refl;
      apart = apart;
    }
  where
    apart : (q : State) → Has (star x) q → ((p : State) × (q ≡ left p))
        ⊎ Outside 1 (width x) 0 (run x) (spot (star x) q)
    apart start h = inr (inl (omega arith))
    apart accepting h = inr (inr (omega arith))
    apart (left q) h = inl (q, refl)
    apart (right q) h = absurd h
