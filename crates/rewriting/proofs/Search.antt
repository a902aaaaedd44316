-- The search finds a giving exactly when there is one.
use Rattle.std.proofs.Common.{◌≡◌, ℕ, Bool, true, false, T, eqb, ◌⊎◌, List, [], ◌∷◌, ◌++◌, map, sym, refl, ap, ◌∙◌, subst, ap₂, inl, inr, ⊎_elim, eqb→eq}
use lib.Dec.{eqb_refl}
use Rattle.notation.specs.Logic.{Term, con, var, Atom, at, Facts, In, here, there, rename, terms}
use Rattle.search.specs.Holding.{put, Makes}
use Rattle.search.specs.Keeping.{Agree, SomeHead}
use Rattle.rewriting.specs.Computing.{any, all, each, some?, Given, given, only, give, fit_term, fit_terms, fit, ways, holds, keeps, same_term, SearchIsRight, RuleCheckIsRight}
use Rattle.rewriting.specs.Steps.{Query}
use Rattle.rewriting.proofs.Lists.{by_test, none_in, in_left, in_right, in_cases, in_either, in_each, of_each, term_eq, term_refl, any_in, any_of, all_at, args, both_of}

-- what has been given: to n the term t
abbrev Gives : Given → ℕ → Term → Type 0
Gives s n t = given n s ≡ t ∷ []

abbrev Extends : (ℕ → Term) → Given → Type 0
Extends h s = (n : ℕ) (t : Term) → Gives s n t → h n ≡ t

-- s' keeps what s gives, and gives further just to the variables of ts
record Grew (s s' : Given) (ts : List Term) : Type 0 where
  grows : (n : ℕ) (t : Term) → Gives s n t → Gives s' n t
  covers : (n : ℕ) → In (var n) ts → (t : Term) × Gives s' n t
  from : (n : ℕ) (t : Term) → Gives s' n t → Gives s n t ⊎ In (var n) ts

grew_none : (s : Given) → Grew s s []
grew_none s = record { grows = λ n t e. e; covers = λ n m. absurd (none_in m); from = λ n t e. inl e }

grew_then : {s u v : Given} {ts us : List Term} → Grew s u ts → Grew u v us → Grew s v (ts ++ us)
grew_then {s} {u} {v} {ts} {us} a b = record {
  grows = λ n t e. b.grows n t (a.grows n t e);
  covers = λ n m. ⊎_elim (λ k. let r = a.covers n k in (r.0, b.grows n r.0 r.1)) (λ k. b.covers n k) (in_either ts m);
  from = λ n t e. ⊎_elim (λ g. ⊎_elim (λ h. inl h) (λ k. inr (in_left us k)) (a.from n t g)) (λ k. inr (in_right ts k)) (b.from n t e);
}

one_given : (n : ℕ) (s : Given) {v : Term} {vs : List Term} → given n s ≡ v ∷ vs → Gives s n v
one_given n [] {v} {vs} e = absurd (none_in (subst (λ (w : List Term). In v w) (sym e) (here {ys = vs} refl)))
one_given n (x ∷ s) {v} {vs} e =
    by_test (λ w. w ≡ v ∷ vs → w ≡ v ∷ []) (eqb n x.0) (x.1 ∷ []) (given n s)
    (λ t i. first x.1 i)
    (λ t i. one_given n s i) e
  where
    first : (y : Term) → y ∷ [] ≡ v ∷ vs → y ∷ [] ≡ v ∷ []
    first y i = cc

not_both : {x : Term} → ◌≡◌ {A = List Term} [] (x ∷ []) → ⊥
not_both {x} e = none_in (subst (λ (w : List Term). In x w) (sym e) (here refl))

-- one more
grew_one : (n : ℕ) (u : Term) (s : Given) → given n s ≡ [] → Grew s ((n, u) ∷ s) (var n ∷ [])
grew_one n u s none = record {
  grows = λ m t e. by_test (λ w. w ≡ t ∷ []) (eqb m n) (u ∷ []) (given m s)
      (λ i. absurd (not_both (sym none ∙ ap (λ k. given k s) (sym (eqb→eq m n i)) ∙ e)))
      (λ i. e);
  covers = λ m k. (u, by_test (λ w. w ≡ u ∷ []) (eqb m n) (u ∷ []) (given m s) (λ i. refl) (λ i. absurd (i (same m (in_cases k)))));
  from = λ m t. by_test (λ w. w ≡ t ∷ [] → Gives s m t ⊎ In (var m) (var n ∷ [])) (eqb m n) (u ∷ []) (given m s)
      (λ i e. inr (here (ap var (eqb→eq m n i))))
      (λ i e. inl e);
}
  where
    num : Term → ℕ
    num (con k) = k
    num (var k) = k

    same : (m : ℕ) → (var m ≡ var n) ⊎ In (var m) [] → T (eqb m n)
    same m (inl e) = subst (λ k. T (eqb m k)) (ap num e) (eqb_refl m)
    same m (inr i) = absurd (none_in i)

-- what a fit says: it grew by the terms, and each giving that extends it turns the terms into the others
abbrev Fit : Given → Given → Term → Term → Type 0
Fit s s' t u = Grew s s' (t ∷ []) × ((h : ℕ → Term) → Extends h s' → put h t ≡ u)

of_only : {X : Type 0} {x y : X} (b : Bool) → In y (only b x) → T b × (y ≡ x)
of_only true m = (tt, ⊎_elim (λ e. e) (λ k. absurd (none_in k)) (in_cases m))
of_only false m = absurd (none_in m)

fit_con : (k : ℕ) (u : Term) (s s' : Given) → In s' (only (same_term (con k) u) s) → Fit s s' (con k) u
fit_con k u s s' m = let r = of_only (same_term (con k) u) m in (
  subst (λ v. Grew s v (con k ∷ [])) (sym r.1) (record
      { grows = λ n t e. e; covers = λ n i. absurd (var_con n (in_cases i)); from = λ n t e. inl e }),
  λ h e. term_eq (con k) u r.0,
)
  where
    is_var : Term → Type 0
    is_var (con j) = ⊥
    is_var (var j) = Unit {0}

    var_con : (n : ℕ) → (var n ≡ con k) ⊎ In (var n) [] → ⊥
    var_con n (inl e) = subst is_var e tt
    var_con n (inr i) = none_in i

fit_var : (n : ℕ) (u : Term) (s s' : Given) (g : List Term) → given n s ≡ g → In s' (give g n u s) → Fit s s' (var n) u
fit_var n u s s' [] e m = let i : s' ≡ (n, u) ∷ s = ⊎_elim (λ k. k) (λ k. absurd (none_in k)) (in_cases m) in
    let gr = grew_one n u s e in (
      subst (λ v. Grew s v (var n ∷ [])) (sym i) gr,
      λ h x. x n u (subst (λ v. Gives v n u) (sym i) (by_test (λ w. w ≡ u ∷ []) (eqb n n) (u ∷ []) (given n s) (λ t. refl) (λ t. absurd (t (eqb_refl n))))),
    )
fit_var n u s s' (v ∷ vs) e m =
    let r = of_only (same_term v u) m in
    let g : Gives s n u = subst (λ w. Gives s n w) (term_eq v u r.0) (one_given n s e) in (
      subst (λ w. Grew s w (var n ∷ [])) (sym r.1) (record {
        grows = λ k t i. i;
        covers = λ k i. (u, subst (λ j. Gives s j u) (sym (same k (in_cases i))) g);
        from = λ k t i. inl i;
      }),
      λ h x. x n u (subst (λ w. Gives w n u) (sym r.1) g),
    )
  where
    num : Term → ℕ
    num (con k) = k
    num (var k) = k

    same : (k : ℕ) → (var k ≡ var n) ⊎ In (var k) [] → k ≡ n
    same k (inl i) = ap num i
    same k (inr i) = absurd (none_in i)

fit_one : (t u : Term) (s s' : Given) → In s' (fit_term t u s) → Fit s s' t u
fit_one (con k) u s s' m = fit_con k u s s' m
fit_one (var n) u s s' m = fit_var n u s s' (given n s) refl m

extends_back : {s s' : Given} {ts : List Term} (h : ℕ → Term) → Grew s s' ts → Extends h s' → Extends h s
extends_back h g x n t e = x n t (g.grows n t e)

abbrev Fits : Given → Given → List Term → List Term → Type 0
Fits s s' ts us = Grew s s' ts × ((h : ℕ → Term) → Extends h s' → map (put h) ts ≡ us)

fit_many : (ts us : List Term) (s s' : Given) → In s' (fit_terms ts us s) → Fits s s' ts us
fit_many [] [] s s' m = (subst (λ v. Grew s v []) (sym (⊎_elim (λ k. k) (λ k. absurd (none_in k)) (in_cases m))) (grew_none s), λ h x. refl)
fit_many [] (u ∷ us) s s' m = absurd (none_in m)
fit_many (t ∷ ts) [] s s' m = absurd (none_in m)
fit_many (t ∷ ts) (u ∷ us) s s' m =
    let r = of_each (fit_terms ts us) (fit_term t u s) m in
    let a = fit_one t u s r.0 r.1 in
    let b = fit_many ts us r.0 s' r.2 in
    (grew_then a.0 b.0, λ h x. ap₂ ◌∷◌ (a.1 h (extends_back h b.0 x)) (b.1 h x))

fit_atom : (a f : Atom Term) (s s' : Given) → In s' (fit a f s) → Grew s s' (args a) × ((h : ℕ → Term) → Extends h s' → rename (put h) a ≡ f)
fit_atom (at p ts) (at q us) s s' m = go (eqb p q) (eqb→eq p q) m
  where
    go : (b : Bool) → (T b → p ≡ q) → In s' (elim b [ true ↦ fit_terms ts us s | false ↦ [] ]) → Grew s s' ts × ((h : ℕ → Term) → Extends h s' → at p (map (put h) ts) ≡ at q us)
    go true e n = let r = fit_many ts us s s' n in (r.0, λ h x. ap₂ at (e tt) (r.1 h x))
    go false e n = absurd (none_in n)

terms_cons : {X : Type 0} (a : Atom X) (q : List (Atom X)) → args a ++ terms q ≡ terms (a ∷ q)
terms_cons (at p ts) q = refl

way : (q : Query) (l : Facts) (s s' : Given) → In s' (ways q l s) → Grew s s' (terms q) × ((h : ℕ → Term) → Extends h s' → Makes h q l)
way [] l s s' m = (subst (λ v. Grew s v []) (sym (⊎_elim (λ k. k) (λ k. absurd (none_in k)) (in_cases m))) (grew_none s), λ h x a k. absurd (none_in k))
way (a ∷ q) l s s' m =
    let r = of_each (λ f. each (fit a f s) (ways q l)) l m in
    let o = of_each (ways q l) (fit a r.0 s) r.2 in
    let x = fit_atom a r.0 s o.0 o.1 in
    let y = way q l o.0 s' o.2 in (
      subst (λ v. Grew s s' v) (terms_cons a q) (grew_then x.0 y.0),
      λ h e c k. ⊎_elim
          (λ i. subst (λ v. In v l) (sym (ap (rename (put h)) i ∙ x.1 h (extends_back h y.0 e))) r.1)
          (λ i. y.1 h e c i) (in_cases k),
    )

-- a giving by what was given
abbrev first_of : List Term → Term
first_of [] = con 0
first_of (t ∷ ts) = t

giving_extends : (s : Given) → Extends (λ n. first_of (given n s)) s
giving_extends s n t e = ap first_of e

-- ---------------------------------------------------------------- what there is, is found

in_only : {X : Type 0} {x : X} (b : Bool) → T b → In x (only b x)
in_only true t = here refl
in_only false t = absurd t

abbrev Found : (ℕ → Term) → List Given → Type 0
Found h ss = (s : Given) × In s ss × Extends h s

found_var : (h : ℕ → Term) (n : ℕ) (u : Term) (s : Given) (g : List Term) → given n s ≡ g → Extends h s → h n ≡ u → Found h (give g n u s)
found_var h n u s [] e x i = (
  (n, u) ∷ s,
  here refl,
  λ m t.
      by_test (λ w. w ≡ t ∷ [] → h m ≡ t) (eqb m n) (u ∷ []) (given m s)
      (λ j k. ap h (eqb→eq m n j) ∙ i ∙ first u t k)
      (λ j k. x m t k),
)
  where
    first : (a b : Term) → a ∷ [] ≡ b ∷ [] → a ≡ b
    first a b k = cc
found_var h n u s (v ∷ vs) e x i =
    (s, in_only (same_term v u) (subst (λ w. T (same_term v w)) (sym (x n v (one_given n s e)) ∙ i) (term_refl v)), x)

found_term : (h : ℕ → Term) (t u : Term) (s : Given) → Extends h s → put h t ≡ u → Found h (fit_term t u s)
found_term h (con k) u s x e = (s, in_only (same_term (con k) u) (subst (λ w. T (same_term (con k) w)) e (term_refl (con k))), x)
found_term h (var n) u s x e = found_var h n u s (given n s) refl x e

found_terms : (h : ℕ → Term) (ts us : List Term) (s : Given) → Extends h s → map (put h) ts ≡ us → Found h (fit_terms ts us s)
found_terms h [] [] s x e = (s, here refl, x)
found_terms h [] (u ∷ us) s x e = absurd (none_in (subst (λ w. In u w) (sym e) (here refl)))
found_terms h (t ∷ ts) [] s x e = absurd (none_in (subst (λ w. In (put h t) w) e (here refl)))
found_terms h (t ∷ ts) (u ∷ us) s x e =
    let r = found_term h t u s x (head (put h t) u (map (put h) ts) us e) in
    let o = found_terms h ts us r.0 r.2 (tail (put h t) u (map (put h) ts) us e) in
    (o.0, in_each (fit_terms ts us) r.1 o.1, o.2)
  where
    head : (a b : Term) (p q : List Term) → a ∷ p ≡ b ∷ q → a ≡ b
    head a b p q i = cc

    tail : (a b : Term) (p q : List Term) → a ∷ p ≡ b ∷ q → p ≡ q
    tail a b p q i = cc

found_atom : (h : ℕ → Term) (a f : Atom Term) (s : Given) → Extends h s → rename (put h) a ≡ f → Found h (fit a f s)
found_atom h (at p ts) (at q us) s x e = go (eqb p q) (subst (λ n. T (eqb p n)) (ap pred e) (eqb_refl p))
  where
    pred : Atom Term → ℕ
    pred (at n vs) = n

    go : (b : Bool) → T b → Found h (elim b [ true ↦ fit_terms ts us s | false ↦ [] ])
    go true t = found_terms h ts us s x (ap args e)
    go false t = absurd t

found_way : (h : ℕ → Term) (q : Query) (l : Facts) (s : Given) → Extends h s → Makes h q l → Found h (ways q l s)
found_way h [] l s x m = (s, here refl, x)
found_way h (a ∷ q) l s x m =
    let r = found_atom h a (rename (put h) a) s x refl in
    let o = found_way h q l r.0 r.2 (λ c k. m c (there k)) in
    (o.0, in_each (λ f. each (fit a f s) (ways q l)) (m a (here refl)) (in_each (ways q l) r.1 o.1), o.2)

-- ---------------------------------------------------------------- the laws

pub true_T : {b : Bool} → b ≡ true → T b
true_T e = subst T (sym e) tt

pub T_true : (b : Bool) → T b → b ≡ true
T_true true t = refl
T_true false t = absurd t

some_in : {X : Type 0} (xs : List X) → T (some? xs) → (x : X) × In x xs
some_in [] t = absurd t
some_in (x ∷ xs) t = (x, here refl)

in_some : {X : Type 0} {x : X} {xs : List X} → In x xs → T (some? xs)
in_some (here e) = tt
in_some (there m) = tt

pub all_of : {X : Type 0} (f : X → Bool) (xs : List X) → ((x : X) → In x xs → T (f x)) → T (all f xs)
all_of f [] h = tt
all_of f (x ∷ xs) h = both_of (f x) (all f xs) (h x (here refl)) (all_of f xs (λ y m. h y (there m)))

pub search_is_right : SearchIsRight
search_is_right q l = (
  λ e. let r = some_in (ways q l []) (true_T e) in
      let h : ℕ → Term = λ n. first_of (given n r.0) in
      (h, (way q l [] r.0 r.1).1 h (giving_extends r.0)),
  λ h. T_true (holds q l) (in_some (found_way h.0 q l [] (λ n t e. absurd (not_both e)) h.1).1),
)

head_of : (b : List (Atom Term)) (h : ℕ → Term) (d : List (Atom Term)) (ds : List (List (Atom Term))) (l : Facts) → In d ds → (g : ℕ → Term) → Agree b h g → Makes g d l → SomeHead b h ds l
head_of b h d [] l i g a m = absurd (none_in i)
head_of b h d (c ∷ ds) l i g a m = ⊎_elim (λ e. inl (g, a, subst (λ v. Makes g v l) e m)) (λ j. inr (head_of b h d ds l j g a m)) (in_cases i)

of_head : (b : List (Atom Term)) (h : ℕ → Term) (ds : List (List (Atom Term))) (l : Facts) → SomeHead b h ds l → (d : List (Atom Term)) × In d ds × (g : ℕ → Term) × Agree b h g × Makes g d l
of_head b h [] l s = absurd s
of_head b h (c ∷ ds) l s = ⊎_elim (λ r. (c, here refl, r.0, r.1, r.2)) (λ r. let o = of_head b h ds l r in (o.0, there o.1, o.2, o.3, o.4)) s

pub rule_check_is_right : RuleCheckIsRight
rule_check_is_right r l = (
  λ e h m.
      let s = found_way h r.body l [] (λ n t i. absurd (not_both i)) m in
      let t = any_in (λ d. some? (ways d l s.0)) r.heads (all_at (λ v. any (λ d. some? (ways d l v)) r.heads) (true_T e) s.1) in
      let u = some_in (ways t.0 l s.0) t.2 in
      let y = way t.0 l s.0 u.0 u.1 in
      let z = way r.body l [] s.0 s.1 in
      let g : ℕ → Term = λ n. first_of (given n u.0) in
      head_of r.body h t.0 r.heads l t.1 g
      (λ n o. let c = z.0.covers n o in giving_extends u.0 n c.0 (y.0.grows n c.0 c.1) ∙ sym (s.2 n c.0 c.1))
      (y.1 g (giving_extends u.0)),
  λ kept. T_true (keeps r l) (all_of (λ v. any (λ d. some? (ways d l v)) r.heads) (ways r.body l []) (λ s i.
      let z = way r.body l [] s i in
      let h : ℕ → Term = λ n. first_of (given n s) in
      let o = of_head r.body h r.heads l (kept h (z.1 h (giving_extends s))) in
      let g = o.2 in
      let x : Extends g s = λ n t e. ⊎_elim (λ j. absurd (not_both j)) (λ j. o.3 n j ∙ giving_extends s n t e) (z.0.from n t e) in
      any_of (λ d. some? (ways d l s)) o.1 (in_some (found_way g o.0 l s x o.4).1))),
)
