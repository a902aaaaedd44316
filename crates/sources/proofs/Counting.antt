-- How many facts a list of rows tells, and the fact at each place.
use Rattle.std.proofs.Common.{◌≡◌, ℕ, zero, suc, ◌+◌, ◌≤◌, List, [], ◌∷◌, map, length, take, Some, None, Option, sym, refl, ap, subst, ◌∙◌, arith, length-take, Bor}
use Rattle.std.specs.Option.{option_map, option_and_then, MatchOption}
use Rattle.std.specs.List.{slice_get}
use denote.Param.Members.{Mut}
use Rattle.std.specs.declared.iter.MapWhile.{MapWhile}
use Rattle.std.specs.declared.slice.Iter.{Iter}
use Rattle.std.specs.Fn.{Called}
use Rattle.std.specs.Iterator.Adapters.{map_while_source, map_while_callee, map_while_steps}
use Rattle.std.specs.Slice.{IsGetResult}
use Rattle.std.specs.Slice.Iter.{iter_rest}
use Rattle.std.proofs.iter.Yields.{fronts}
use Rattle.std.proofs.iter.runs.Lists.{slice_get-map}
use Rattle.std.proofs.lemmas.Option.{slice_get_read, slice_get_past}
use Rattle.std.proofs.lemmas.Iterator.{YieldsList}
use Rattle.std.proofs.lemmas.Iterator.Splits.{YieldsList-from_shown_while}
use Rattle.std.proofs.lemmas.List.{length-map, nil_from_length}
use Rattle.notation.specs.Logic.{fact_atom}
use Rattle.notation.specs.declared.terms.Atom.{Atom}
use Rattle.notation.specs.declared.terms.Value.{Value}
use Rattle.sources.specs.declared.rows.Row.{Row}
use Rattle.sources.specs.Facts.{onto}
use Rattle.sources.specs.Rows.{decoded, told, row_facts}

onto_less : (o : Option (Atom Value)) (fs : List (Atom Value)) → length (onto o fs) ≤ length fs + 1
onto_less None fs = omega arith
onto_less (Some f) fs = omega arith

told_less : (rs : List Row) → length (told rs) ≤ length rs
told_less [] = omega arith
told_less (r ∷ rs) = omega (arith, onto_less (decoded r) (told rs), told_less rs)

-- no more facts than rows
pub facts_less : (rs : List Row) → length (map fact_atom (row_facts rs)) ≤ length rs
unfolding row_facts
facts_less rs = omega (arith, length-map (row_facts rs) fact_atom, length-take 65535 (told rs), told_less rs)

-- what stands at each place of the first m facts, where the first row tells o
first_at : (m : ℕ) (r : Row) (rs : List Row) (o : Option (Atom Value)) (k : ℕ) → decoded r ≡ o → ((k : ℕ) → slice_get (take m (told rs)) k ≡ option_and_then decoded (slice_get (take (length (take m (told rs))) rs) k)) → slice_get (take (suc m) (onto o (told rs))) k ≡ option_and_then decoded (slice_get (take (length (take (suc m) (onto o (told rs)))) (r ∷ rs)) k)
first_at m r rs None k e later = refl
first_at m r rs (Some f) zero e later = sym e
first_at m r rs (Some f) (suc k) e later = later k

told_at : (m : ℕ) (rs : List Row) (k : ℕ) → slice_get (take m (told rs)) k ≡ option_and_then decoded (slice_get (take (length (take m (told rs))) rs) k)
told_at zero rs k = refl
told_at (suc m) [] k = refl
told_at (suc m) (r ∷ rs) k = first_at m r rs (decoded r) k refl (told_at m rs)

pub fact_told : (rs : List Row) (n k : ℕ) → n ≡ length (map fact_atom (row_facts rs)) → option_map fact_atom (option_and_then decoded (slice_get (take n rs) k)) ≡ slice_get (map fact_atom (row_facts rs)) k
unfolding row_facts
fact_told rs n k e =
    ap (λ m. option_map fact_atom (option_and_then decoded (slice_get (take m rs) k))) (e ∙ length-map (row_facts rs) fact_atom)
    ∙ ap (option_map fact_atom) (sym (told_at 65535 rs k))
    ∙ sym (slice_get-map fact_atom (row_facts rs) k)

-- a row that is looked up, and decoded where there is one
pub row_read : (rs : List Row) (k : ℕ) (o : Option (Bor Row)) (r : Option (Atom Value)) → IsGetResult rs k k o → MatchOption o (r ≡ None) (λ x. r ≡ decoded x.now) → r ≡ option_and_then decoded (slice_get rs k)
row_read rs k None r i e = e ∙ ap (option_and_then decoded) (sym (slice_get_past rs k i.3))
row_read rs k (Some x) r i e = e ∙ ap (option_and_then decoded) (sym (slice_get_read rs _ k x.now refl i.3.0 i.1))

-- ---------------------------------------------------------------- the rows decoded, up to the first that is no fact

module _ {F : Type 0} (g : Mut F (Bor Row × Unit {0}) (Option (Atom Value))) (f : F) (decodes : (x : Bor Row) (o : Option (Atom Value)) (h : F) → Called g f (x, tt) o h → (h ≡ f) × (o ≡ decoded x.now)) where
  -- one call of the iterator, which took o and gave r
  one_step : (o : Option (Bor Row)) (s t : Iter Row) (h k : F) (r : Option (Atom Value)) → h ≡ f → fronts s o t → MatchOption o ((r ≡ None) × (k ≡ h)) (λ x. Called g h (x, tt) r k) → (k ≡ f) × (told (iter_rest s) ≡ onto r (told (iter_rest t)))
  one_step None s t h k r e took gave = (gave.1 ∙ e, ap told (nil_from_length (iter_rest s) took.0) ∙ ap (λ o. onto o (told (iter_rest t))) (sym gave.0))
  one_step (Some x) s t h k r e took gave =
      let d = decodes x r k (subst (λ h. Called g h (x, tt) r k) e gave) in
      (d.0, ap told took ∙ ap (λ o. onto o (told (iter_rest t))) (sym d.1))

  pub told_yields : (s : MapWhile (Iter Row) F) (rs : List Row) → iter_rest (map_while_source s) ≡ rs → map_while_callee s ≡ f → YieldsList (map_while_steps fronts g) (λ x. x) s (told rs)
  told_yields s rs e is =
      subst (YieldsList (map_while_steps fronts g) (λ x. x) s) (ap told e)
      (YieldsList-from_shown_while (map_while_steps fronts g) (λ x. x) (λ t. told (iter_rest (map_while_source t))) (λ t. map_while_callee t ≡ f)
      (λ t u h k. ap length (one_step k.0 _ _ _ _ None h k.1 k.2).1)
      (λ t x u h k. one_step k.0 _ _ _ _ (Some x) h k.1 k.2)
      s is)
