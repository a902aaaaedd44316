-- One term against one value.
use Rattle.std.proofs.Common.{◌≡◌, ℕ, ◌<◌, List, length, get_or, set, Some, None, Option, sym, ap, ◌∙◌, ⊎_elim, get_or-set_other, get_or-set_same}
use Rattle.std.proofs.lemmas.Bool.{cases_eq}
use Rattle.notation.specs.declared.terms.Term.{Term as WrittenTerm}
use Rattle.notation.specs.declared.terms.Term.TheVariants as term
use Rattle.notation.specs.declared.terms.Value.{Value}
use Rattle.notation.specs.declared.terms.Value.TheVariants as value
use Rattle.notation.specs.Logic.{Term, as_value}
use Rattle.search.specs.Bindings.{Agrees, Narrowed, Meets, Free}

-- no two values are read alike
value_from_read : (x y : Value) → as_value x ≡ as_value y → x ≡ y
value_from_read (value.Constant j) (value.Constant k) e = cc
value_from_read (value.Constant j) (value.Unknown k) e = cc
value_from_read (value.Unknown j) (value.Constant k) e = cc
value_from_read (value.Unknown j) (value.Unknown k) e = cc

-- a term that can be the value is free to be it
pub free_from_meets : (b : List (Option Value)) (t : WrittenTerm) (x : Value) (h : ℕ → Term) → Agrees h b → Meets t x h → Free b t x
free_from_meets b (term.Constant k) x h ag m = value_from_read x (value.Constant k) (sym m)
free_from_meets b (term.Variable v) x h ag m = λ y e. value_from_read y x (sym (ag v y e) ∙ m)

pub narrow_constant : (b : List (Option Value)) (k : ℕ) (x : Value) → Free b (term.Constant k) x → Narrowed b (Meets (term.Constant k) x) b
narrow_constant b k x e = record {
  back = λ h ag. (ag, ap as_value (sym e));
  forth = λ h ag m. ag;
}

some_inj : {X : Type 0} (x y : X) → Some x ≡ Some y → x ≡ y
some_inj x y e = cc

pub narrow_variable : (b : List (Option Value)) (v : ℕ) (x : Value) → v < length b → Free b (term.Variable v) x → Narrowed b (Meets (term.Variable v) x) (set b v (Some x))
narrow_variable b v x l free = record {
  back = λ h ag. let here = ag v x (get_or-set_same b v (Some x) None l) in (
    (λ w y e. ⊎_elim
        (λ (p : w ≡ v). ap h p ∙ here ∙ ap as_value (sym (free y (ap (λ k. get_or b k None) (sym p) ∙ e))))
        (λ n. ag w y (get_or-set_other b v w (Some x) None n ∙ e))
        (cases_eq w v)),
    here,
  );
  forth = λ h ag m w y e. ⊎_elim
      (λ (p : w ≡ v).
      let same : Some x ≡ Some y = sym (get_or-set_same b v (Some x) None l) ∙ ap (λ k. get_or (set b v (Some x)) k None) (sym p) ∙ e in
      ap h p ∙ m ∙ ap as_value (some_inj x y same))
      (λ n. ag w y (sym (get_or-set_other b v w (Some x) None n) ∙ e))
      (cases_eq w v);
}
