-- Membership, tests, and renaming.
use Rattle.std.proofs.Common.{◌≡◌, ℕ, suc, Bool, true, false, cond, ◌&&◌, ◌||◌, T, eqb, ◌⊎◌, List, [], ◌∷◌, ◌++◌, map, sym, refl, ap, subst, ap₂, inl, inr, ⊎_elim, eqb→eq}
use lib.Dec.{eqb_refl}
use Rattle.notation.specs.Logic.{Term, con, var, Atom, at, In, here, there, rename, terms}
use Rattle.search.specs.Keeping.{Occurs}
use Rattle.rewriting.specs.Classes.{same_ref}
use Rattle.rewriting.specs.Computing.{any, all, each, same_term, same_list, same_atom}
use Rattle.rewriting.specs.Steps.{Ref, fixed, own, copy, member, at_numbers, off_numbers, drop_all, vars}

-- a goal about `cond`, by its test
pub by_test : {A : Type 0} (C : A → Type 0) (b : Bool) (x y : A) → (T b → C x) → ((T b → ⊥) → C y) → C (cond b x y)
by_test C true x y p n = p tt
by_test C false x y p n = n (λ t. t)

pub decide : {P : Type 0} (b : Bool) → (T b → P) → ((T b → ⊥) → P) → P
decide true p n = p tt
decide false p n = n (λ t. t)

pub both_in : (a b : Bool) → T (a && b) → T a × T b
both_in true b t = (tt, t)
both_in false b t = absurd t

pub both_of : (a b : Bool) → T a → T b → T (a && b)
both_of true b t u = u
both_of false b t u = absurd t

pub or_in : (a b : Bool) → T (a || b) → T a ⊎ T b
or_in true b t = inl tt
or_in false b t = inr t

pub or_left : (a b : Bool) → T a → T (a || b)
or_left true b t = tt
or_left false b t = absurd t

pub or_right : (a b : Bool) → T b → T (a || b)
or_right true b t = tt
or_right false b t = t

pub none_in : {X : Type 0} {x : X} → In x [] → ⊥
none_in m = elim m [ ]

pub in_left : {X : Type 0} {x : X} {xs : List X} (ys : List X) → In x xs → In x (xs ++ ys)
in_left ys (here e) = here e
in_left ys (there m) = there (in_left ys m)

pub in_right : {X : Type 0} {x : X} (xs : List X) {ys : List X} → In x ys → In x (xs ++ ys)
in_right [] m = m
in_right (y ∷ xs) m = there (in_right xs m)

pub in_cases : {X : Type 0} {x y : X} {xs : List X} → In x (y ∷ xs) → (x ≡ y) ⊎ In x xs
in_cases (here e) = inl e
in_cases (there m) = inr m

pub in_either : {X : Type 0} {x : X} (xs : List X) {ys : List X} → In x (xs ++ ys) → In x xs ⊎ In x ys
in_either [] m = inr m
in_either (y ∷ xs) m = ⊎_elim (λ e. inl (here e)) (λ n. ⊎_elim (λ a. inl (there a)) (λ b. inr b) (in_either xs n)) (in_cases m)

pub in_map : {X Y : Type 0} (f : X → Y) {x : X} {xs : List X} → In x xs → In (f x) (map f xs)
in_map f (here e) = here (ap f e)
in_map f (there m) = there (in_map f m)

pub of_map : {X Y : Type 0} (f : X → Y) {y : Y} (xs : List X) → In y (map f xs) → (x : X) × In x xs × (y ≡ f x)
of_map f [] m = absurd (none_in m)
of_map f (x ∷ xs) m = ⊎_elim (λ e. (x, here refl, e)) (λ n. let r = of_map f xs n in (r.0, there r.1, r.2)) (in_cases m)

pub in_each : {X Y : Type 0} (f : X → List Y) {x : X} {y : Y} {xs : List X} → In x xs → In y (f x) → In y (each xs f)
in_each f {x} {y} (here {ys = xs} e) n = in_left (each xs f) (subst (λ v. In y (f v)) e n)
in_each f (there {y = z} m) n = in_right (f z) (in_each f m n)

pub of_each : {X Y : Type 0} (f : X → List Y) {y : Y} (xs : List X) → In y (each xs f) → (x : X) × In x xs × In y (f x)
of_each f [] m = absurd (none_in m)
of_each f (x ∷ xs) m = ⊎_elim (λ a. (x, here refl, a)) (λ b. let r = of_each f xs b in (r.0, there r.1, r.2)) (in_either (f x) m)

pub map_same : {X Y : Type 0} (f g : X → Y) (xs : List X) → ((x : X) → In x xs → f x ≡ g x) → map f xs ≡ map g xs
map_same f g [] h = refl
map_same f g (x ∷ xs) h = ap₂ ◌∷◌ (h x (here refl)) (map_same f g xs (λ y m. h y (there m)))

pub map_twice : {X Y Z : Type 0} (g : Y → Z) (f : X → Y) (xs : List X) → map g (map f xs) ≡ map (λ x. g (f x)) xs
map_twice g f [] = refl
map_twice g f (x ∷ xs) = ap (λ r. g (f x) ∷ r) (map_twice g f xs)

abbrev pub args : {X : Type 0} → Atom X → List X
args (at p ts) = ts

pub in_args : {X Y : Type 0} (f : X → Y) {x : X} (a : Atom X) → In x (args a) → In (f x) (args (rename f a))
in_args f (at p ts) m = in_map f m

pub rename_same : {X Y : Type 0} (f g : X → Y) (a : Atom X) → ((x : X) → In x (args a) → f x ≡ g x) → rename f a ≡ rename g a
rename_same f g (at p ts) h = ap (at p) (map_same f g ts h)

pub rename_twice : {X Y Z : Type 0} (g : Y → Z) (f : X → Y) (a : Atom X) → rename g (rename f a) ≡ rename (λ x. g (f x)) a
rename_twice g f (at p ts) = ap (at p) (map_twice g f ts)

pub occurs_in : {X : Type 0} {x : X} (a : Atom X) {q : List (Atom X)} → In a q → In x (args a) → Occurs x q
occurs_in {X} {x} a (here {y = b} {ys = q} e) n = first b (subst (λ v. In x (args v)) e n)
  where
    first : (d : Atom X) → In x (args d) → Occurs x (d ∷ q)
    first (at p ts) k = in_left (terms q) k
occurs_in {X} {x} a (there {y = b} {ys = q} m) n = next b (occurs_in a m n)
  where
    next : (d : Atom X) → Occurs x q → Occurs x (d ∷ q)
    next (at p ts) k = in_right ts k

-- tests of equality
pub term_eq : (x y : Term) → T (same_term x y) → x ≡ y
term_eq (con k) (con m) t = ap con (eqb→eq k m t)
term_eq (con k) (var m) t = absurd t
term_eq (var k) (con m) t = absurd t
term_eq (var k) (var m) t = ap var (eqb→eq k m t)

pub term_refl : (x : Term) → T (same_term x x)
term_refl (con k) = eqb_refl k
term_refl (var k) = eqb_refl k

pub ref_eq : (x y : Ref) → T (same_ref x y) → x ≡ y
ref_eq (fixed k) (fixed m) t = ap fixed (eqb→eq k m t)
ref_eq (fixed k) (own m) t = absurd t
ref_eq (fixed k) (copy j m) t = absurd t
ref_eq (own k) (fixed m) t = absurd t
ref_eq (own k) (own m) t = ap own (eqb→eq k m t)
ref_eq (own k) (copy j m) t = absurd t
ref_eq (copy i k) (fixed m) t = absurd t
ref_eq (copy i k) (own m) t = absurd t
ref_eq (copy i k) (copy j m) t = let s = both_in (eqb i j) (eqb k m) t in ap₂ copy (eqb→eq i j s.0) (eqb→eq k m s.1)

pub ref_refl : (x : Ref) → T (same_ref x x)
ref_refl (fixed k) = eqb_refl k
ref_refl (own k) = eqb_refl k
ref_refl (copy i k) = both_of (eqb i i) (eqb k k) (eqb_refl i) (eqb_refl k)

module _ {X : Type 0} (f : X → X → Bool) (eq : (x y : X) → T (f x y) → x ≡ y) (rf : (x : X) → T (f x x)) where
  pub list_eq : (xs ys : List X) → T (same_list f xs ys) → xs ≡ ys
  list_eq [] [] t = refl
  list_eq [] (y ∷ ys) t = absurd t
  list_eq (x ∷ xs) [] t = absurd t
  list_eq (x ∷ xs) (y ∷ ys) t = let s = both_in (f x y) (same_list f xs ys) t in ap₂ ◌∷◌ (eq x y s.0) (list_eq xs ys s.1)

  pub list_refl : (xs : List X) → T (same_list f xs xs)
  list_refl [] = tt
  list_refl (x ∷ xs) = both_of (f x x) (same_list f xs xs) (rf x) (list_refl xs)

  pub atom_eq : (a b : Atom X) → T (same_atom f a b) → a ≡ b
  atom_eq (at p ts) (at q us) t = let s = both_in (eqb p q) (same_list f ts us) t in ap₂ at (eqb→eq p q s.0) (list_eq ts us s.1)

  pub atom_refl : (a : Atom X) → T (same_atom f a a)
  atom_refl (at p ts) = both_of (eqb p p) (same_list f ts ts) (eqb_refl p) (list_refl ts)

pub any_in : {X : Type 0} (f : X → Bool) (xs : List X) → T (any f xs) → (x : X) × In x xs × T (f x)
any_in f [] t = absurd t
any_in f (x ∷ xs) t =
    ⊎_elim (λ a. (x, here refl, a)) (λ b. let r = any_in f xs b in (r.0, there r.1, r.2)) (or_in (f x) (any f xs) t)

pub any_of : {X : Type 0} (f : X → Bool) {x : X} {xs : List X} → In x xs → T (f x) → T (any f xs)
any_of f (here {y = y} {ys = xs} e) t = or_left (f y) (any f xs) (subst (λ v. T (f v)) e t)
any_of f (there {y = y} {ys = xs} m) t = or_right (f y) (any f xs) (any_of f m t)

pub all_at : {X : Type 0} (f : X → Bool) {x : X} {xs : List X} → T (all f xs) → In x xs → T (f x)
all_at f t (here {y = y} {ys = xs} e) = subst (λ v. T (f v)) (sym e) (both_in (f y) (all f xs) t).0
all_at f t (there {y = y} {ys = xs} m) = all_at f (both_in (f y) (all f xs) t).1 m

pub member_in : (n : ℕ) (ns : List ℕ) → T (member n ns) → In n ns
member_in n ns t = let r = any_in (eqb n) ns t in subst (λ v. In v ns) (sym (eqb→eq n r.0 r.2)) r.1

pub in_member : {n : ℕ} {ns : List ℕ} → In n ns → T (member n ns)
in_member {n} m = any_of (eqb n) m (eqb_refl n)

-- each element is at one of the numbers or off them
pub at_or_off : {X : Type 0} (ns : List ℕ) (i : ℕ) {x : X} (xs : List X) → In x xs → In x (at_numbers ns i xs) ⊎ In x (off_numbers ns i xs)
at_or_off ns i [] m = absurd (none_in m)
at_or_off {X} ns i {x} (y ∷ xs) m = at_test (member i ns) (in_cases m) (at_or_off ns (suc i) xs)
  where
    more : List X
    more = at_numbers ns (suc i) xs

    rest : List X
    rest = off_numbers ns (suc i) xs

    at_test : (b : Bool) → (x ≡ y) ⊎ In x xs → (In x xs → In x more ⊎ In x rest) → In x (cond b (y ∷ more) more) ⊎ In x (cond b rest (y ∷ rest))
    at_test true (inl e) h = inl (here e)
    at_test true (inr n) h = ⊎_elim (λ a. inl (there a)) (λ b. inr b) (h n)
    at_test false (inl e) h = inr (here e)
    at_test false (inr n) h = ⊎_elim (λ a. inl a) (λ b. inr (there b)) (h n)

pub at_in : {X : Type 0} (ns : List ℕ) (i : ℕ) {x : X} (xs : List X) → In x (at_numbers ns i xs) → In x xs
at_in ns i [] m = m
at_in {X} ns i {x} (y ∷ xs) m =
    by_test (λ v. In x v → In x (y ∷ xs)) (member i ns) (y ∷ at_numbers ns (suc i) xs) (at_numbers ns (suc i) xs)
    (λ t n. ⊎_elim (λ e. here e) (λ k. there (at_in ns (suc i) xs k)) (in_cases n))
    (λ t n. there (at_in ns (suc i) xs n)) m

-- what is dropped and what stays
pub drop_keeps : (ns ms : List ℕ) (n : ℕ) → (T (member n ns) → ⊥) → In n ms → In n (drop_all ns ms)
drop_keeps ns [] n h m = absurd (none_in m)
drop_keeps ns (k ∷ ms) n h m =
    by_test (λ v. In n v) (member k ns) (drop_all ns ms) (k ∷ drop_all ns ms)
    (λ t. ⊎_elim (λ e. absurd (h (subst (λ v. T (member v ns)) (sym e) t))) (λ j. drop_keeps ns ms n h j) (in_cases m))
    (λ t. ⊎_elim (λ e. here e) (λ j. there (drop_keeps ns ms n h j)) (in_cases m))

pub dropped_off : (ns ms : List ℕ) (n : ℕ) → In n (drop_all ns ms) → T (member n ns) → ⊥
dropped_off ns [] n m = absurd (none_in m)
dropped_off ns (k ∷ ms) n m =
    by_test (λ v. In n v → T (member n ns) → ⊥) (member k ns) (drop_all ns ms) (k ∷ drop_all ns ms)
    (λ t j. dropped_off ns ms n j)
    (λ t j u. ⊎_elim (λ e. t (subst (λ v. T (member v ns)) e u)) (λ i. dropped_off ns ms n i u) (in_cases j)) m

pub in_vars : {n : ℕ} (ts : List Term) → In (var n) ts → In n (vars ts)
in_vars [] m = absurd (none_in m)
in_vars {n} (con k ∷ ts) m = ⊎_elim (λ e. absurd (subst is_var e tt)) (λ j. in_vars ts j) (in_cases m)
  where
    is_var : Term → Type 0
    is_var (con k) = ⊥
    is_var (var k) = Unit {0}
in_vars {n} (var k ∷ ts) m = ⊎_elim (λ e. here (ap num e)) (λ j. there (in_vars ts j)) (in_cases m)
  where
    num : Term → ℕ
    num (con k) = k
    num (var k) = k

pub of_vars : {n : ℕ} (ts : List Term) → In n (vars ts) → In (var n) ts
of_vars [] m = absurd (none_in m)
of_vars (con k ∷ ts) m = there (of_vars ts m)
of_vars (var k ∷ ts) m = ⊎_elim (λ e. here (ap var e)) (λ j. there (of_vars ts j)) (in_cases m)
