-- One giving after another.
use Rattle.std.proofs.Common.{◌≡◌, ℕ, List, [], ◌∷◌, map, sym, refl, ap, subst}
use Rattle.notation.specs.Logic.{Term, con, var, Atom, at, In, rename}
use Rattle.search.specs.Holding.{put}
use Rattle.search.specs.Mapping.{HeldWhereMapped, HeldByGeneral}

module _ (h g : ℕ → Term) where
  -- h, and then g
  abbrev then : ℕ → Term
  then n = put g (h n)

  put_then : (t : Term) → put then t ≡ put g (put h t)
  put_then (con k) = refl
  put_then (var n) = refl

  terms_then : (ts : List Term) → map (put then) ts ≡ map (put g) (map (put h) ts)
  terms_then [] = refl
  terms_then (t ∷ ts) = let e = put_then t in let more = terms_then ts in cc

  rename_then : (a : Atom Term) → rename (put then) a ≡ rename (put g) (rename (put h) a)
  rename_then (at p ts) = ap (at p) (terms_then ts)

pub held_where_mapped : HeldWhereMapped
held_where_mapped q l m held maps =
    let h = held.0 in
    let g = maps.0 in
    (then h g, λ a i. subst (λ x. In x m) (sym (rename_then h g a)) (maps.1 _ (held.1 a i)))

pub held_by_general : HeldByGeneral
held_by_general a b l = held_where_mapped b a l
