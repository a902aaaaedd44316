-- Every family over queries that the ledger has can be offered.
use mathlib.Core.Path.{◌≡◌, refl, sym, ap, ap₂, subst, ◌∙◌}
use mathlib.Core.List.{List, [], ◌∷◌, ◌++◌, map}
use mathlib.Core.Bool.{Bool, cond, ◌&&◌, ◌||◌}
use mathlib.Core.Logic.{inl, ⊎_elim, ◌↔◌}
use Prim.Native.Nat.{ℕ, zero, suc, ◌+◌, ◌≤◌, ◌<◌}
use native.Mathlib.Omega.{arith}
use lib.Dec.{T, leb, ltb, le→leb, lt→ltb}
use lib.ListN.{length}
use Rattle.notation.specs.Logic.{Term, con, var, Atom, at, In, here, there, rename, terms}
use Rattle.search.specs.Keeping.{Occurs}
use Rattle.rewriting.specs.Classes.{same_ref}
use Rattle.rewriting.specs.Computing.{any, all, same_atom, same_term}
use Rattle.rewriting.specs.Judging.{rising, numbers_fit, has_ref, Ledger, tie_fits}
use Rattle.rewriting.specs.Rightness.{Distinct}
use Rattle.rewriting.specs.Steps.{Query, Ref, fixed, own, copy, in_rule, in_copy, End, end, Step, Part, Unified, Piece, piece, bare, nth, member, at_numbers, Ties, all_ties, Linked}
use Rattle.rewriting.specs.Unifiers.{part_terms, Joined, within, itself, back, via, PieceUnifier, relabel, Renames}
use Rattle.laws.specs.Derivations.{Use, use_part, UsesOf, Family, Numbers, published, PartsOffer, OfParts, StepOffers}
use Rattle.rewriting.proofs.Alike.{at_place}
use Rattle.rewriting.proofs.Apart.{terms_rename, of_terms, tie_of}
use Rattle.rewriting.proofs.Fitting.{tests_in}
use Rattle.rewriting.proofs.Lists.{by_test, both_of, or_left, or_right, none_in, in_left, in_right, in_cases, in_either, in_map, of_map, occurs_in, any_of, in_member, member_in, ref_eq, ref_refl, term_eq, term_refl, atom_refl, rename_twice}
use Rattle.rewriting.proofs.Nth.{nth_in, in_nth, one_of}
use Rattle.rewriting.proofs.Search.{all_of}
use Rattle.laws.proofs.Offered.{at_of}
use Rattle.laws.proofs.Offers.{rename_id, taken_test, Zipped, zip_of, zip_back, zipped_of, part_to, part_back}

-- ---------------------------------------------------------------- the numbers of the atoms that pass

abbrev numbers_where : (Atom Term → Bool) → ℕ → List (Atom Term) → List ℕ
numbers_where f i [] = []
numbers_where f i (a ∷ xs) = let more = numbers_where f (suc i) xs in cond (f a) (i ∷ more) more

numbers_rising : (f : Atom Term → Bool) (lo i : ℕ) (xs : List (Atom Term)) → lo ≤ i → T (rising lo (i + length xs) (numbers_where f i xs))
numbers_rising f lo i [] l = tt
numbers_rising f lo i (a ∷ xs) l =
    let hi = i + suc (length xs) in
    let more = numbers_where f (suc i) xs in
    by_test (λ v. T (rising lo hi v)) (f a) (i ∷ more) more
    (λ t. both_of (leb lo i) (ltb i hi && rising (suc i) hi more) (le→leb lo i l) (both_of (ltb i hi) (rising (suc i) hi more) (lt→ltb i hi (below i (length xs)))
    (subst (λ v. T (rising (suc i) v more)) (over i (length xs)) (numbers_rising f (suc i) (suc i) xs (same (suc i))))))
    (λ t. subst (λ v. T (rising lo v more)) (over i (length xs)) (numbers_rising f lo (suc i) xs (more_le lo i l)))
  where
    over : (k j : ℕ) → suc k + j ≡ k + suc j
    over k j = omega arith

    below : (k j : ℕ) → k < k + suc j
    below k j = omega arith

    same : (k : ℕ) → k ≤ k
    same k = omega arith

    more_le : (k j : ℕ) → k ≤ j → k ≤ suc j
    more_le k j h = omega arith

where_of : (f : Atom Term → Bool) (i : ℕ) (xs : List (Atom Term)) (k : ℕ) → In k (numbers_where f i xs) → (j : ℕ) × (k ≡ i + j) × (b : Atom Term) × (nth j xs ≡ b ∷ []) × T (f b)
where_of f i [] k m = absurd (none_in m)
where_of f i (a ∷ xs) k m =
    by_test (λ v. In k v → (j : ℕ) × (k ≡ i + j) × (b : Atom Term) × (nth j (a ∷ xs) ≡ b ∷ []) × T (f b)) (f a) (i ∷ numbers_where f (suc i) xs) (numbers_where f (suc i) xs)
    (λ t n. ⊎_elim (λ e. (0, e ∙ z i, a, refl, t)) (λ o. next (where_of f (suc i) xs k o)) (in_cases n))
    (λ t n. next (where_of f (suc i) xs k n)) m
  where
    z : (k : ℕ) → k ≡ k + 0
    z k = omega arith

    over : (k j : ℕ) → suc k + j ≡ k + suc j
    over k j = omega arith

    next : (j : ℕ) × (k ≡ suc i + j) × (b : Atom Term) × (nth j xs ≡ b ∷ []) × T (f b) → (j : ℕ) × (k ≡ i + j) × (b : Atom Term) × (nth j (a ∷ xs) ≡ b ∷ []) × T (f b)
    next r = (suc r.0, r.1 ∙ over i r.0, r.2, r.3, r.4)

in_where : (f : Atom Term → Bool) (i : ℕ) (xs : List (Atom Term)) (j : ℕ) (a : Atom Term) → nth j xs ≡ a ∷ [] → T (f a) → In (i + j) (numbers_where f i xs)
in_where f i [] j a e t = absurd (none_in (nth_in j [] e))
in_where f i (x ∷ xs) zero a e t =
    by_test (λ v. In (i + 0) v) (f x) (i ∷ numbers_where f (suc i) xs) (numbers_where f (suc i) xs)
    (λ u. here (z i)) (λ u. absurd (u (subst (λ v. T (f v)) (sym (one_of e)) t)))
  where
    z : (k : ℕ) → k + 0 ≡ k
    z k = omega arith
in_where f i (x ∷ xs) (suc j) a e t =
    let rec : In (i + suc j) (numbers_where f (suc i) xs) = subst (λ v. In v (numbers_where f (suc i) xs)) (over i j) (in_where f (suc i) xs j a e t) in
    by_test (λ v. In (i + suc j) v) (f x) (i ∷ numbers_where f (suc i) xs) (numbers_where f (suc i) xs) (λ u. there rec) (λ u. rec)
  where
    over : (k j : ℕ) → suc k + j ≡ k + suc j
    over k j = omega arith

at_where : (f : Atom Term → Bool) (xs : List (Atom Term)) (a : Atom Term) → In a xs → T (f a) → In a (at_numbers (numbers_where f 0 xs) 0 xs)
at_where f xs a m t = let r = in_nth m in at_of (numbers_where f 0 xs) 0 xs r.0 r.1 (in_member (in_where f 0 xs r.0 a r.1 t))

where_at : (f : Atom Term → Bool) (xs : List (Atom Term)) (a : Atom Term) → In a (at_numbers (numbers_where f 0 xs) 0 xs) → T (f a)
where_at f xs a m =
    let r = at_place (numbers_where f 0 xs) 0 xs m in
    let w = where_of f 0 xs (0 + r.0) (member_in (0 + r.0) (numbers_where f 0 xs) r.2) in
    let e : r.0 ≡ w.0 = drop r.0 w.0 w.1 in
    subst (λ v. T (f v)) (one_of (sym w.3 ∙ ap (λ k. nth k xs) (sym e) ∙ r.1)) w.4
  where
    drop : (j k : ℕ) → 0 + j ≡ 0 + k → j ≡ k
    drop j k e = omega arith

where_fits : (f : Atom Term → Bool) (xs : List (Atom Term)) (a : Atom Term) → In a xs → T (f a) → T (numbers_fit (length xs) (numbers_where f 0 xs))
where_fits f xs a m t = let r = in_nth m in fit (numbers_where f 0 xs) (in_where f 0 xs r.0 a r.1 t) (subst (λ v. T (rising 0 v (numbers_where f 0 xs))) (y (length xs)) (numbers_rising f 0 0 xs (z 0)))
  where
    y : (k : ℕ) → 0 + k ≡ k
    y k = omega arith

    z : (k : ℕ) → k ≤ k
    z k = omega arith

    fit : {k : ℕ} (ns : List ℕ) → In k ns → T (rising 0 (length xs) ns) → T (numbers_fit (length xs) ns)
    fit [] i h = absurd (none_in i)
    fit (n ∷ ns) i h = h

-- ---------------------------------------------------------------- ties to the first term of each class

abbrev first_by : (Ref → Ref) → List Ref → Ref → Ref → Ref
first_by g [] k d = d
first_by g (z ∷ zs) k d = cond (same_ref (g z) k) z (first_by g zs k d)

first_in : (g : Ref → Ref) (zs : List Ref) (k d x : Ref) → In x zs → g x ≡ k → In (first_by g zs k d) zs × (g (first_by g zs k d) ≡ k)
first_in g [] k d x m e = absurd (none_in m)
first_in g (z ∷ zs) k d x m e =
    by_test (λ v. In v (z ∷ zs) × (g v ≡ k)) (same_ref (g z) k) z (first_by g zs k d)
    (λ t. (here refl, ref_eq (g z) k t))
    (λ t. let r = first_in g zs k d x (⊎_elim (λ i. absurd (t (subst (λ v. T (same_ref v k)) (sym e ∙ ap g i) (subst (λ v. T (same_ref k v)) refl (ref_refl k))))) (λ i. i) (in_cases m)) e in (there r.0, r.1))

first_one : (g : Ref → Ref) (zs : List Ref) (k d c x : Ref) → In x zs → g x ≡ k → first_by g zs k d ≡ first_by g zs k c
first_one g [] k d c x m e = absurd (none_in m)
first_one g (z ∷ zs) k d c x m e =
    by_test (λ v. v ≡ first_by g (z ∷ zs) k c) (same_ref (g z) k) z (first_by g zs k d)
    (λ t. by_test (λ v. z ≡ v) (same_ref (g z) k) z (first_by g zs k c) (λ u. refl) (λ u. absurd (u t)))
    (λ t. by_test (λ v. first_by g zs k d ≡ v) (same_ref (g z) k) z (first_by g zs k c) (λ u. absurd (t u))
    (λ u. first_one g zs k d c x (⊎_elim (λ i. absurd (t (subst (λ v. T (same_ref v k)) (sym e ∙ ap g i) (ref_refl k)))) (λ i. i) (in_cases m)) e))

abbrev rep : (Ref → Ref) → List Ref → Ref → Ref
rep g zs x = first_by g zs (g x) x

abbrev to_end : Ref → End
to_end (fixed k) = End.c k
to_end (own k) = End.r k
to_end (copy i k) = End.q k

-- the ledger's terms of a part with these atoms
abbrev terms_of : ℕ → List (Atom Term) → List (Atom Term) → List Ref
terms_of i xs ds = terms (map (rename (in_copy i)) xs) ++ terms (map (rename in_rule) ds)

end_back : (i : ℕ) (xs ds : List (Atom Term)) (y : Ref) → In y (terms_of i xs ds) → end i (to_end y) ≡ y
end_back i xs ds y m = ⊎_elim
    (λ k. let r = of_terms (in_copy i) xs k in subst (λ v. end i (to_end v) ≡ v) (sym r.2) (of_copy r.0))
    (λ k. let r = of_terms in_rule ds k in subst (λ v. end i (to_end v) ≡ v) (sym r.2) (of_rule r.0))
    (in_either (terms (map (rename (in_copy i)) xs)) m)
  where
    of_copy : (t : Term) → end i (to_end (in_copy i t)) ≡ in_copy i t
    of_copy (con k) = refl
    of_copy (var k) = refl

    of_rule : (t : Term) → end i (to_end (in_rule t)) ≡ in_rule t
    of_rule (con k) = refl
    of_rule (var k) = refl

-- the part that offers a use
abbrev part_for : ℕ → List (Atom Term) → Use → ℕ → Query → (ℕ → ℕ) → (Ref → Ref) → Part
part_for i d w k x fro g =
    let ns = numbers_where (λ a. any (same_atom same_term (rename (relabel fro) a)) w.taken) 0 x in
    let hs = numbers_where (λ a. any (same_atom same_term a) w.named) 0 d in
    let zs = terms_of i (at_numbers ns 0 x) (at_numbers hs 0 d) in
    record { query = k; taken = ns; named = hs; ties = map (λ y. (to_end y, to_end (rep g zs y))) zs }

-- the ties are those of the partition g
record TiedBy (g : Ref → Ref) (p : Piece) : Type 0 where
  ends_in : (t : Ref × Ref) → In t p.ties → In t.0 (part_terms (bare p)) × In t.1 (part_terms (bare p)) × (g t.0 ≡ g t.1)
  links : (x y : Ref) → In x (part_terms (bare p)) → In y (part_terms (bare p)) → g x ≡ g y → Linked p.ties x y

module _ (i : ℕ) (b d : List (Atom Term)) (w : Use) (k : ℕ) (x : Query) (fro : ℕ → ℕ) (g : Ref → Ref) where
  p : Part
  p = part_for i d w k x fro g

  zs : List Ref
  zs = part_terms (bare (piece i b d x (part_for i d w k x fro g)))

  tie_is : (t : Ref × Ref) → In t (piece i b d x p).ties → (y : Ref) × In y zs × (t ≡ (y, rep g zs y))
  unfolding p zs
  tie_is t m =
      let r = of_map (λ (e : End × End). (end i e.0, end i e.1)) p.ties m in
      let o = of_map (λ y. (to_end y, to_end (rep g zs y))) zs r.1 in
      let f = first_in g zs (g o.0) o.0 o.0 o.1 refl in (
        o.0,
        o.1,
        r.2 ∙ ap (λ (e : End × End). (end i e.0, end i e.1)) o.2
            ∙ ap₂ (λ u v. (u, v)) (end_back i (at_numbers p.taken 0 x) (at_numbers p.named 0 d) o.0 o.1) (end_back i (at_numbers p.taken 0 x) (at_numbers p.named 0 d) (rep g zs o.0) f.0),
      )

  is_tie : (y : Ref) → In y zs → In (y, rep g zs y) (piece i b d x p).ties
  unfolding p zs
  is_tie y m =
      let f = first_in g zs (g y) y y m refl in
      subst (λ (t : Ref × Ref). In t (piece i b d x p).ties)
      (ap₂ (λ u v. (u, v)) (end_back i (at_numbers p.taken 0 x) (at_numbers p.named 0 d) y m) (end_back i (at_numbers p.taken 0 x) (at_numbers p.named 0 d) (rep g zs y) f.0))
      (in_map (λ (e : End × End). (end i e.0, end i e.1)) (in_map (λ z. (to_end z, to_end (rep g zs z))) m))

  tied_by : TiedBy g (piece i b d x (part_for i d w k x fro g))
  unfolding p zs
  tied_by = record {
    ends_in = λ t m. let r = tie_is t m in let f = first_in g zs (g r.0) r.0 r.0 r.1 refl in
        subst (λ (v : Ref × Ref). In v.0 zs × In v.1 zs × (g v.0 ≡ g v.1)) (sym r.2) (r.1, f.0, sym f.1);
    links = λ y z m n e. Linked.via (Linked.tied (is_tie y m)) (subst (λ v. Linked (piece i b d x p).ties v z)
        (first_one g zs (g z) z y z n refl ∙ ap (λ v. first_by g zs v y) (sym e)) (Linked.back (Linked.tied (is_tie z n))));
  }

  tie_tests : T (all (tie_fits (piece i b d x (part_for i d w k x fro g))) (piece i b d x (part_for i d w k x fro g)).ties)
  unfolding p zs
  tie_tests = all_of (tie_fits (piece i b d x p)) (piece i b d x p).ties (λ t m. let r = tied_by.ends_in t m in
      both_of (has_ref t.0 (piece i b d x p).taken || has_ref t.0 (piece i b d x p).named) (has_ref t.1 (piece i b d x p).taken || has_ref t.1 (piece i b d x p).named) (found t.0 r.0) (found t.1 r.1))
    where
      found : (y : Ref) → In y (part_terms (bare (piece i b d x (part_for i d w k x fro g)))) → T (has_ref y (piece i b d x (part_for i d w k x fro g)).taken || has_ref y (piece i b d x (part_for i d w k x fro g)).named)
      found y m = ⊎_elim
          (λ j. or_left (has_ref y (piece i b d x (part_for i d w k x fro g)).taken) (has_ref y (piece i b d x (part_for i d w k x fro g)).named) (any_of (same_ref y) j (ref_refl y)))
          (λ j. or_right (has_ref y (piece i b d x (part_for i d w k x fro g)).taken) (has_ref y (piece i b d x (part_for i d w k x fro g)).named) (any_of (same_ref y) j (ref_refl y)))
          (in_either (terms (piece i b d x (part_for i d w k x fro g)).taken) m)

-- ---------------------------------------------------------------- at most 96

map_length : {X Y : Type 0} (g : X → Y) (xs : List X) → length (map g xs) ≡ length xs
map_length g [] = refl
map_length g (x ∷ xs) = ap suc (map_length g xs)

pub append_length : {X : Type 0} (xs ys : List X) → length (xs ++ ys) ≡ length xs + length ys
append_length [] ys = z (length ys)
  where
    z : (k : ℕ) → k ≡ 0 + k
    z k = omega arith
append_length (x ∷ xs) ys = ap suc (append_length xs ys) ∙ over (length xs) (length ys)
  where
    over : (k j : ℕ) → suc (k + j) ≡ suc k + j
    over k j = omega arith

pub renamed_length : {X Y : Type 0} (g : X → Y) (q : List (Atom X)) → length (terms (map (rename g) q)) ≡ length (terms q)
renamed_length g q = ap length (terms_rename g q) ∙ map_length g (terms q)

at_length : (ns : List ℕ) (i : ℕ) (xs : List (Atom Term)) → length (terms (at_numbers ns i xs)) ≤ length (terms xs)
at_length ns i [] = omega arith
at_length ns i (at o ts ∷ xs) =
    let h : length (terms (at_numbers ns (suc i) xs)) ≤ length (terms xs) = at_length ns (suc i) xs in
    let e : length (ts ++ terms xs) ≡ length ts + length (terms xs) = append_length ts (terms xs) in
    let f : length (ts ++ terms (at_numbers ns (suc i) xs)) ≡ length ts + length (terms (at_numbers ns (suc i) xs)) = append_length ts (terms (at_numbers ns (suc i) xs)) in
    by_test (λ v. length (terms v) ≤ length (ts ++ terms xs)) (member i ns) (at o ts ∷ at_numbers ns (suc i) xs) (at_numbers ns (suc i) xs)
    (λ t. omega arith) (λ t. omega arith)

few_ties : (i : ℕ) (d : List (Atom Term)) (w : Use) (k : ℕ) (x : Query) (fro : ℕ → ℕ) (g : Ref → Ref) → length (terms x) ≤ 64 → length (terms d) ≤ 16 → T (leb (length (part_for i d w k x fro g).ties) 96)
few_ties i d w k x fro g h l =
    let p = part_for i d w k x fro g in
    let xs = at_numbers p.taken 0 x in
    let ds = at_numbers p.named 0 d in
    let e1 : length p.ties ≡ length (terms_of i xs ds) = map_length (λ y. (to_end y, to_end (rep g (terms_of i xs ds) y))) (terms_of i xs ds) in
    let e2 : length (terms_of i xs ds) ≡ length (terms (map (rename (in_copy i)) xs)) + length (terms (map (rename in_rule) ds)) = append_length (terms (map (rename (in_copy i)) xs)) (terms (map (rename in_rule) ds)) in
    let e3 = renamed_length (in_copy i) xs in
    let e4 = renamed_length in_rule ds in
    let e5 = at_length p.taken 0 x in
    let e6 = at_length p.named 0 d in
    le→leb (length p.ties) 96 (sum (length p.ties) (length (terms_of i xs ds)) (length (terms (map (rename (in_copy i)) xs))) (length (terms (map (rename in_rule) ds))) (length (terms xs)) (length (terms ds)) (length (terms x)) (length (terms d)) e1 e2 e3 e4 e5 e6 h l)
  where
    sum : (a b c e f j m n : ℕ) → a ≡ b → b ≡ c + e → c ≡ f → e ≡ j → f ≤ m → j ≤ n → m ≤ 64 → n ≤ 16 → a ≤ 96
    sum a b c e f j m n h1 h2 h3 h4 h5 h6 h7 h8 = omega arith

-- ---------------------------------------------------------------- the parts

some_in : {X Y : Type 0} (g : X → Y) (xs : List X) → (map g xs ≡ [] → ⊥) → (x : X) × In x xs
some_in g [] h = absurd (h refl)
some_in g (x ∷ xs) h = (x, here refl)

turned_back : (to fro : ℕ → ℕ) (q x : Query) → Renames to fro q x → (a : Atom Term) → In a q → rename (relabel fro) (rename (relabel to) a) ≡ a
turned_back to fro q x ren a m = rename_twice (relabel fro) (relabel to) a ∙ rename_id (λ t. relabel fro (relabel to t)) a (λ t k. turn t (occurs_in a m k))
  where
    turn : (t : Term) → Occurs t q → relabel fro (relabel to t) ≡ t
    turn (con k) o = refl
    turn (var k) o = ap var (ren.to_back k o)

passes : (a : Atom Term) (ts : List (Atom Term)) → In a ts → T (any (same_atom same_term a) ts)
passes a ts m = any_of (same_atom same_term a) m (atom_refl same_term term_eq term_refl a)

-- the ledger has the query of this use, under a number and other names
pub record Has (s : Ledger) (kn : Numbers) (to back : ℕ → ℕ) (w : Use) : Type 0 where
  pub number : ℕ
  pub query : Query
  pub known : In (w.query, number) kn
  pub is_there : nth number s.entered ≡ query ∷ []
  pub renames : Renames to back w.query query
  -- 16 atoms of 4 terms
  pub terms_fit : length (terms query) ≤ 64

record Built (s : Ledger) (kn : Numbers) (to fro : ℕ → ℕ → ℕ) (P : ℕ → Ref → Ref) (b : List (Atom Term)) (i : ℕ) (ds : List (List (Atom Term))) (ws : List Use) : Type 0 where
  parts : List Part
  pieces : List Piece
  offer : PartsOffer s kn to fro b i ds ws parts pieces
  tied : (p : Piece) → In p pieces → TiedBy (λ y. P p.head (published fro y)) p

built : (s : Ledger) (kn : Numbers) (to fro : ℕ → ℕ → ℕ) (P : ℕ → Ref → Ref) (b : List (Atom Term)) {i : ℕ} {ds : List (List (Atom Term))} {ws : List Use} {us : List Unified} → UsesOf b i ds ws us →
    ((j : ℕ) (w : Use) → nth j ws ≡ w ∷ [] → Has s kn (to (i + j)) (fro (i + j)) w) → ((d : List (Atom Term)) → In d ds → length (terms d) ≤ 16) →
    ((u : Unified) → In u us → PieceUnifier (P u.head) u) → Built s kn to fro P b i ds ws
built s kn to fro P b UsesOf.done has small uni = record { parts = []; pieces = []; offer = PartsOffer.done; tied = λ p m. absurd (none_in m) }
built s kn to fro P b (UsesOf.more {i = i} {d = d} {w = w} tin nin us) has small uni =
    let h : Has s kn (to i) (fro i) w = subst (λ v. Has s kn (to v) (fro v) w) (z i) (has 0 w refl) in
    let x = h.query in
    let g : Ref → Ref = λ y. P i (published fro y) in
    let p = part_for i d w h.number x (fro i) g in
    let ft : Atom Term → Bool = λ a. any (same_atom same_term (rename (relabel (fro i)) a)) w.taken in
    let fn : Atom Term → Bool = λ a. any (same_atom same_term a) w.named in
    let u = uni (use_part i b d w) (here refl) in
    let a = some_in (rename (in_copy i)) w.taken u.not_empty in
    let m = u.taken_met (rename (in_copy i) a.0) (in_map (rename (in_copy i)) a.1) in
    let c = of_map (rename in_rule) w.named m.1 in
    let taken_passes : (e : Atom Term) → In e w.taken → T (ft (rename (relabel (to i)) e)) = λ e k.
    passes (rename (relabel (fro i)) (rename (relabel (to i)) e)) w.taken (subst (λ v. In v w.taken) (sym (turned_back (to i) (fro i) w.query x h.renames e (tin e k))) k) in
    let r = built s kn to fro P b us (λ j v e. subst (λ k. Has s kn (to k) (fro k) v) (over i j) (has (suc j) v e)) (λ e k. small e (there k)) (λ v k. uni v (there k)) in
    record {
      parts = p ∷ r.parts;
      pieces = piece i b d x p ∷ r.pieces;
      offer = PartsOffer.more x h.known h.is_there h.renames
          (tests_in x d p (piece i b d x p) (both_of (numbers_fit (length x) p.taken) (numbers_fit (length d) p.named)
          (where_fits ft x (rename (relabel (to i)) a.0) (h.renames.has a.0 (tin a.0 a.1)) (taken_passes a.0 a.1))
          (where_fits fn d c.0 (nin c.0 c.1) (passes c.0 w.named c.1)))
          (both_of (leb (length p.ties) 96) (all (tie_fits (piece i b d x p)) (piece i b d x p).ties)
          (few_ties i d w h.number x (fro i) g h.terms_fit (small d (here refl))) (tie_tests i b d w h.number x (fro i) g)))
          (λ e k. at_where ft x (rename (relabel (to i)) e) (h.renames.has e (tin e k)) (taken_passes e k))
          (λ e k. taken_test (rename (relabel (fro i)) e) w.taken (where_at ft x e k))
          (λ e. (λ k. at_where fn d e (nin e k) (passes e w.named k), λ k. taken_test e w.named (where_at fn d e k)))
          r.offer;
      tied = λ o k. ⊎_elim (λ e. subst (λ (v : Piece). TiedBy (λ y. P v.head (published fro y)) v) (sym e) (tied_by i b d w h.number x (fro i) g)) (λ j. r.tied o j) (in_cases k);
    }
  where
    z : (k : ℕ) → k + 0 ≡ k
    z k = omega arith

    over : (k j : ℕ) → k + suc j ≡ suc k + j
    over k j = omega arith

-- ---------------------------------------------------------------- the classes

of_tie : {t : Ref × Ref} (ms : List Piece) (p : Piece) → In p ms → In t p.ties → In t (all_ties ms)
of_tie [] p m i = absurd (none_in m)
of_tie {t} (o ∷ ms) p m i = ⊎_elim (λ e. in_left (all_ties ms) (subst (λ (v : Piece). In t v.ties) e i)) (λ k. in_right o.ties (of_tie ms p k i)) (in_cases m)

more_linked : {ts us : Ties} {x y : Ref} → ((t : Ref × Ref) → In t ts → In t us) → Linked ts x y → Linked us x y
more_linked h (Linked.tied {x = x} {y = y} m) = Linked.tied (h (x, y) m)
more_linked h Linked.itself = Linked.itself
more_linked h (Linked.back l) = Linked.back (more_linked h l)
more_linked h (Linked.via l k) = Linked.via (more_linked h l) (more_linked h k)

module _ (nm mv : Ref → Ref) (ps : List Piece) (os : List Unified) (P : ℕ → Ref → Ref) (zip : Zipped nm mv (map bare ps) os) (tied : (p : Piece) → In p ps → TiedBy (λ y. P p.head (nm y)) p) where
  to_joined : {x y : Ref} → Linked (all_ties ps) x y → Joined os P (nm x) (nm y)
  to_joined (Linked.tied {x = x} {y = y} m) =
      let r = tie_of ps m in
      let e = (tied r.0 r.1).ends_in (x, y) r.2 in
      let z = zip_of zip (bare r.0) (in_map bare r.1) in
      within z.0 z.1 (part_to nm mv (bare r.0) z.0 z.2 x e.0) (part_to nm mv (bare r.0) z.0 z.2 y e.1) (subst (λ k. P k (nm x) ≡ P k (nm y)) z.2.head_same e.2)
  to_joined Linked.itself = itself
  to_joined (Linked.back l) = back (to_joined l)
  to_joined (Linked.via l k) = via (to_joined l) (to_joined k)

  to_linked : {x y : Ref} → Joined os P x y → Linked (all_ties ps) (mv x) (mv y)
  to_linked (within {x = x} {y = y} o m i j e) =
      let z = zip_back zip o m in
      let c = z.2 in
      let r = of_map bare ps z.1 in
      more_linked (λ t k. of_tie ps r.0 r.1 k) ((tied r.0 r.1).links (mv x) (mv y)
      (subst (λ v. In (mv x) (part_terms v)) r.2 (part_back nm mv z.0 o c x i)) (subst (λ v. In (mv y) (part_terms v)) r.2 (part_back nm mv z.0 o c y j))
      (subst (λ k. P k (nm (mv x)) ≡ P k (nm (mv y))) (sym c.head_same ∙ ap (λ (v : Unified). v.head) r.2) (ap (P o.head) (c.back_there x (inl i)) ∙ e ∙ ap (P o.head) (sym (c.back_there y (inl j))))))
  to_linked itself = Linked.itself
  to_linked (back h) = Linked.back (to_linked h)
  to_linked (via h k) = Linked.via (to_linked h) (to_linked k)

  stays : (x : Ref) → OfParts ps x → mv (nm x) ≡ x
  stays x h = (zip_of zip (bare h.0) (in_map bare h.1)).2.there_back x
      (inl (⊎_elim (λ k. in_left (terms h.0.named) k) (λ k. in_right (terms h.0.taken) k) h.2))

  same_classes : (x y : Ref) → OfParts ps x → OfParts ps y → Linked (all_ties ps) x y ↔ Joined os P (nm x) (nm y)
  same_classes x y hx hy = (to_joined, λ j. subst (λ v. Linked (all_ties ps) v y) (stays x hx) (subst (λ v. Linked (all_ties ps) (mv (nm x)) v) (stays y hy) (to_linked j)))

-- every family over queries that the ledger has, whatever its partitions, can be offered
pub family_offered : (s : Ledger) (kn : Numbers) (f : Family) → ((x : Query) → In x s.entered → Distinct x) →
    (r : ℕ) → nth r s.rules ≡ f.rule ∷ [] → ((d : List (Atom Term)) → In d f.rule.heads → length (terms d) ≤ 16) →
    (to fro : ℕ → ℕ → ℕ) → ((i : ℕ) (w : Use) → nth i f.uses ≡ w ∷ [] → Has s kn (to i) (fro i) w) →
    (t : Step) × StepOffers s kn f t
family_offered s kn f dis r is small to fro has =
    let b = f.rule.body in
    let w = built s kn to fro f.partition b f.uses_of (λ j v e. subst (λ k. Has s kn (to k) (fro k) v) (z j) (has j v e)) small f.unifier.each_head in
    let zip = zipped_of s kn to fro dis b w.offer f.uses_of in (
      record { rule = r; parts = w.parts },
      record { is_rule = is; to = to; back = fro; pieces = w.pieces; parts_offer = w.offer; classes = same_classes (published fro) (published to) w.pieces f.parts f.partition zip w.tied },
    )
  where
    z : (k : ℕ) → k ≡ 0 + k
    z k = omega arith
