-- Right steps by a name for each class.
use Rattle.std.proofs.Common.{◌≡◌, ℕ, true, ◌⊎◌, List, [], ◌∷◌, map, sym, refl, ap, subst, ap₂}
use Rattle.notation.specs.Logic.{Atom, at, In, here, there, rename}
use Rattle.search.specs.Keeping.{Occurs}
use Rattle.rewriting.specs.Classes.{name_in, classes}
use Rattle.rewriting.specs.Steps.{Ref, fixed, own, is_copy, Piece, bare, all_ties, Linked, Pairwise, Become, RightPart, Right}
use Rattle.rewriting.proofs.Lists.{none_in, in_map, of_map, args}
use Rattle.rewriting.proofs.Classing.{names_are_classes, constants_apart}

-- f names the class of each term
pub record RightPieceBy (f : Ref → Ref) (p : Piece) : Type 0 where
  pub met : (a : Atom Ref) → In a p.taken → (b : Atom Ref) × In b p.named × (rename f a ≡ rename f b)
  pub meets : (b : Atom Ref) → In b p.named → (a : Atom Ref) × In a p.taken × (rename f b ≡ rename f a)
  pub unnamed_alone : (z : ℕ) → In z p.unnamed → (x : Ref) → f x ≡ f (own z) →
      (x ≡ own z) ⊎ ((is_copy x ≡ true) × Occurs x p.taken × (Occurs x p.rest → ⊥))

pub record RightBy (f : Ref → Ref) (ps : List Piece) : Type 0 where
  pub constants : (k : ℕ) → f (fixed k) ≡ fixed k
  pub each_piece : (p : Piece) → In p ps → RightPieceBy f p

abbrev pub names : List Piece → Ref → Ref
names ms = name_in (classes (all_ties ms))

-- equal names, place by place
pairs_of : (f : Ref → Ref) (J : Ref → Ref → Type 0) (xs ys : List Ref) → ((x y : Ref) → In x xs → In y ys → f x ≡ f y → J x y) → map f xs ≡ map f ys → Pairwise J xs ys
pairs_of f J [] [] h e = tt
pairs_of f J [] (y ∷ ys) h e = absurd (none_in (subst (λ w. In (f y) w) (sym e) (here refl)))
pairs_of f J (x ∷ xs) [] h e = absurd (none_in (subst (λ w. In (f x) w) e (here refl)))
pairs_of f J (x ∷ xs) (y ∷ ys) h e =
    (h x y (here refl) (here refl) (head (f x) (f y) (map f xs) (map f ys) e), pairs_of f J xs ys (λ a b i j. h a b (there i) (there j)) (tail (f x) (f y) (map f xs) (map f ys) e))
  where
    head : (a b : Ref) (p q : List Ref) → a ∷ p ≡ b ∷ q → a ≡ b
    head a b p q i = cc

    tail : (a b : Ref) (p q : List Ref) → a ∷ p ≡ b ∷ q → p ≡ q
    tail a b p q i = cc

of_pairs : (f : Ref → Ref) (J : Ref → Ref → Type 0) (xs ys : List Ref) → ((x y : Ref) → J x y → f x ≡ f y) → Pairwise J xs ys → map f xs ≡ map f ys
of_pairs f J [] [] h e = refl
of_pairs f J [] (y ∷ ys) h e = absurd e
of_pairs f J (x ∷ xs) [] h e = absurd e
of_pairs f J (x ∷ xs) (y ∷ ys) h e = ap₂ ◌∷◌ (h x y e.0) (of_pairs f J xs ys h e.1)

pub become_of : (f : Ref → Ref) (J : Ref → Ref → Type 0) (a b : Atom Ref) → ((x y : Ref) → In x (args a) → In y (args b) → f x ≡ f y → J x y) → rename f a ≡ rename f b → Become J a b
become_of f J (at p ts) (at q us) h e = (ap pred e, pairs_of f J ts us h (ap args e))
  where
    pred : Atom Ref → ℕ
    pred (at n vs) = n

pub of_become : (f : Ref → Ref) (J : Ref → Ref → Type 0) (a b : Atom Ref) → ((x y : Ref) → J x y → f x ≡ f y) → Become J a b → rename f a ≡ rename f b
of_become f J (at p ts) (at q us) h e = ap₂ at e.0 (of_pairs f J ts us h e.1)

pub right_named : (ms : List Piece) → Right (Linked (all_ties ms)) (map bare ms) → RightBy (names ms) ms
right_named ms r =
    let ts = all_ties ms in
    let cl = names_are_classes ts in
    record {
      constants = (constants_apart ts).0 r.constants;
      each_piece = λ p m. let u = r.each_part (bare p) (in_map bare m) in record {
        met = λ a i. let w = u.taken_met a i in (w.0, w.1, of_become (names ms) (Linked ts) a w.0 (λ x y l. (cl x y).0.1 l) w.2);
        meets = λ b i. let w = u.named_met b i in (w.0, w.1, sym (of_become (names ms) (Linked ts) w.0 b (λ x y l. (cl x y).0.1 l) w.2));
        unnamed_alone = λ z i x e. u.unnamed_alone z i x ((cl (own z) x).0.0 (sym e));
      };
    }

pub named_right : (ms : List Piece) → RightBy (names ms) ms → Right (Linked (all_ties ms)) (map bare ms)
named_right ms r =
    let ts = all_ties ms in
    let cl = names_are_classes ts in
    record {
      constants = (constants_apart ts).1 r.constants;
      each_part = λ u m. let o = of_map bare ms m in subst (RightPart (Linked ts)) (sym o.2) (part o.0 (r.each_piece o.0 o.1));
    }
  where
    part : (p : Piece) → RightPieceBy (names ms) p → RightPart (Linked (all_ties ms)) (bare p)
    part p h = let cl = names_are_classes (all_ties ms) in record {
      taken_met = λ a i. let w = h.met a i in (w.0, w.1, become_of (names ms) (Linked (all_ties ms)) a w.0 (λ x y j k e. (cl x y).0.0 e) w.2);
      named_met = λ b i. let w = h.meets b i in (w.0, w.1, become_of (names ms) (Linked (all_ties ms)) w.0 b (λ x y j k e. (cl x y).0.0 e) (sym w.2));
      unnamed_alone = λ z i x l. h.unnamed_alone z i x ((cl x (own z)).0.1 (Linked.back l));
    }
