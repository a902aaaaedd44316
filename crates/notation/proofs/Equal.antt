-- Terms and atoms are equal by the code's test exactly where they are the same.
use Rattle.std.proofs.Common.{◌≡◌, false, Decides, ap}
use Rattle.std.proofs.lemmas.Bool.{false≢true}
use Rattle.std.proofs.lemmas.Bool.Decides.{Decides-eqb, Decides-and, Decides-like}
use Rattle.std.specs.declared.cmp.PartialEq.{Ghosts}
use Rattle.notation.specs.declared.terms.Term.{Term}
use Rattle.notation.specs.declared.terms.Term.TheVariants.{Constant, Variable}
use Rattle.notation.specs.declared.terms.Terms.{Terms}
use Rattle.notation.specs.declared.terms.Terms.TheVariants.{One, Two, Three, Four}
use Rattle.notation.specs.declared.terms.Atom.{Atom}
use Rattle.notation.specs.contracts.terms.Term.{the_row}
use Rattle.notation.specs.contracts.terms.TermPartialEq.TheImpl as term_eq
use Rattle.notation.specs.contracts.terms.TermsPartialEq.TheImpl as terms_eq
use Rattle.notation.specs.contracts.terms.AtomPartialEq.TheImpl as atom_eq
use denote.RattleType.{RattleType}
use mir.Syntax.{Dict}

-- what never holds is decided by false
never : {P : Type 0} → (P → ⊥) → Decides false P
never n = (λ e. absurd (false≢true e), λ p. absurd (n p))

pub term_equal : (t u : Term) → Decides (term_eq.ghosts.eq t u) (t ≡ u)
term_equal (Constant k) (Constant m) = Decides-like _ (λ e. cc) (λ e. cc) (Decides-eqb k m)
term_equal (Constant k) (Variable m) = never (λ e. cc)
term_equal (Variable k) (Constant m) = never (λ e. cc)
term_equal (Variable k) (Variable m) = Decides-like _ (λ e. cc) (λ e. cc) (Decides-eqb k m)

-- where the test of two terms tells whether they are the same, so do those of more
module _ (T : RattleType) (g : Ghosts T.Denot) (d : Dict) (same : (t u : T.Denot) → Decides (g.eq t u) (t ≡ u)) where
  terms_equal : (ts us : Terms T.Denot) → Decides ((terms_eq.ghosts T g d).eq ts us) (ts ≡ us)
  terms_equal (One t1) (One u1) = Decides-like _ (λ h. cc) (λ e. cc) (same t1 u1)
  terms_equal (One t1) (Two u1 u2) = never (λ e. cc)
  terms_equal (One t1) (Three u1 u2 u3) = never (λ e. cc)
  terms_equal (One t1) (Four u1 u2 u3 u4) = never (λ e. cc)
  terms_equal (Two t1 t2) (One u1) = never (λ e. cc)
  terms_equal (Two t1 t2) (Two u1 u2) = Decides-like _ (λ h. let p1 = h.0 in let p2 = h.1 in cc) (λ e. (cc, cc)) (Decides-and _ _ (same t1 u1) (same t2 u2))
  terms_equal (Two t1 t2) (Three u1 u2 u3) = never (λ e. cc)
  terms_equal (Two t1 t2) (Four u1 u2 u3 u4) = never (λ e. cc)
  terms_equal (Three t1 t2 t3) (One u1) = never (λ e. cc)
  terms_equal (Three t1 t2 t3) (Two u1 u2) = never (λ e. cc)
  terms_equal (Three t1 t2 t3) (Three u1 u2 u3) = Decides-like _ (λ h. let p1 = h.0 in let p2 = h.1.0 in let p3 = h.1.1 in cc) (λ e. (cc, (cc, cc))) (Decides-and _ _ (same t1 u1) (Decides-and _ _ (same t2 u2) (same t3 u3)))
  terms_equal (Three t1 t2 t3) (Four u1 u2 u3 u4) = never (λ e. cc)
  terms_equal (Four t1 t2 t3 t4) (One u1) = never (λ e. cc)
  terms_equal (Four t1 t2 t3 t4) (Two u1 u2) = never (λ e. cc)
  terms_equal (Four t1 t2 t3 t4) (Three u1 u2 u3) = never (λ e. cc)
  terms_equal (Four t1 t2 t3 t4) (Four u1 u2 u3 u4) = Decides-like _ (λ h. let p1 = h.0 in let p2 = h.1.0 in let p3 = h.1.1.0 in let p4 = h.1.1.1 in cc) (λ e. (cc, (cc, (cc, cc)))) (Decides-and _ _ (same t1 u1) (Decides-and _ _ (same t2 u2) (Decides-and _ _ (same t3 u3) (same t4 u4))))

  pub atom_equal : (a b : Atom T.Denot) → Decides ((atom_eq.ghosts T g d).eq a b) (a ≡ b)
  atom_equal a b =
      Decides-like _
      (λ h i. record { predicate = h.0 i; terms = h.1 i })
      (λ e. (ap (λ (x : Atom T.Denot). x.predicate) e, ap (λ (x : Atom T.Denot). x.terms) e))
      (Decides-and _ _ (Decides-eqb a.predicate b.predicate) (terms_equal a.terms b.terms))

-- the test of two atoms of queries and rules
pub query_atom_equal : (a b : Atom Term) → Decides ((atom_eq.ghosts the_row term_eq.ghosts term_eq.dict).eq a b) (a ≡ b)
query_atom_equal = atom_equal the_row term_eq.ghosts term_eq.dict term_equal
