-- A text cut at its separators, one after another.
use Rattle.std.proofs.Common.{◌≡◌, ℕ, suc, ◌+◌, ◌-◌, ◌<◌, ◌≤◌, Bool, true, false, not, cond, eqb, nat_lt, List, [], ◌∷◌, ◌++◌, length, take, drop, Some, None, Ok, Err, Option, Result, sym, refl, ap, ◌∙◌, append_assoc, arith}
use Rattle.std.proofs.lemmas.List.{take_rest}
use Rattle.std.proofs.lemmas.Bool.Decides.{nat_tests}
use Rattle.std.specs.Option.{option_map}
use Rattle.std.specs.List.{position, position_or_len}
use Rattle.notation.specs.declared.faults.LineFault.{LineFault}
use Rattle.notation.specs.Reading.{carry}
use Rattle.notation.specs.Lists.{cut_at, onto_pieces, pieces, every, read_list}

-- the text cut at a place, if there is one
abbrev parted : List ℕ → Option ℕ → Option (List ℕ × List ℕ)
parted s o = option_map (λ i. (take i s, drop (i + 1) s)) o

-- one byte more in front, which is the separator where t is true; n other bytes stand before the next one
cut_byte : (by b : ℕ) (s : List ℕ) (t : Bool) (n : ℕ) (o : Option (List ℕ × List ℕ)) → parted s (cond (nat_lt n (length s)) (Some n) None) ≡ o → parted (b ∷ s) (cond (nat_lt (cond (not t) (1 + n) 0) (suc (length s))) (Some (cond (not t) (1 + n) 0)) None) ≡ cond t (Some ([], s)) (option_map (λ p. (b ∷ p.0, p.1)) o)
cut_byte by b s true n o e = ap (λ t. parted (b ∷ s) (cond t (Some 0) None)) (let some : nat_lt 0 (suc (length s)) ≡ true = grind (arith, nat_tests) in some)
cut_byte by b s false n o e =
    ap (λ k. parted (b ∷ s) (cond (nat_lt k (suc (length s))) (Some k) None)) (let more : 1 + n ≡ suc n = omega arith in more)
    ∙ ap (λ t. parted (b ∷ s) (cond t (Some (suc n)) None)) (let below : nat_lt (suc n) (suc (length s)) ≡ nat_lt n (length s) = grind (arith, nat_tests) in below)
    ∙ by_test (nat_lt n (length s))
    ∙ ap (option_map (λ p. (b ∷ p.0, p.1))) e
  where
    by_test : (t : Bool) → parted (b ∷ s) (cond t (Some (suc n)) None) ≡ option_map (λ p. (b ∷ p.0, p.1)) (parted s (cond t (Some n) None))
    by_test true = ap (λ k. Some (b ∷ take n s, drop k (b ∷ s))) (let e : suc n + 1 ≡ suc (n + 1) = omega arith in e)
    by_test false = refl

cut_position : (by : ℕ) (s : List ℕ) → parted s (position (λ b. eqb b by) s) ≡ cut_at by s
cut_position by [] = refl
cut_position by (b ∷ s) = cut_byte by b s (eqb b by) (position_or_len (λ b. eqb b by) s) (cut_at by s) (cut_position by s)

pub cut_some : (by i : ℕ) (s : List ℕ) → position (λ b. eqb b by) s ≡ Some i → Some (take i s, take (length s - (i + 1)) (drop (i + 1) s)) ≡ cut_at by s
cut_some by i s e = ap (λ r. Some (take i s, r)) (take_rest s (i + 1)) ∙ ap (parted s) (sym e) ∙ cut_position by s

pub cut_none : (by : ℕ) (s : List ℕ) → position (λ b. eqb b by) s ≡ None → None ≡ cut_at by s
cut_none by s e = ap (parted s) (sym e) ∙ cut_position by s

-- ---------------------------------------------------------------- what is cut, and the pieces

-- what the cut off text and the rest give as pieces
abbrev pieces_by : ℕ → List ℕ → Option (List ℕ × List ℕ) → List ℕ × List (List ℕ)
pieces_by by s None = (s, [])
pieces_by by s (Some p) = (p.0, (pieces by p.1).0 ∷ (pieces by p.1).1)

onto : (by b : ℕ) (s : List ℕ) (o : Option (List ℕ × List ℕ)) → (b ∷ (pieces_by by s o).0, (pieces_by by s o).1) ≡ pieces_by by (b ∷ s) (option_map (λ p. (b ∷ p.0, p.1)) o)
onto by b s None = refl
onto by b s (Some p) = refl

by_byte : (by b : ℕ) (s : List ℕ) (t : Bool) → pieces by s ≡ pieces_by by s (cut_at by s) → onto_pieces t b (pieces by s) ≡ pieces_by by (b ∷ s) (cond t (Some ([], s)) (option_map (λ p. (b ∷ p.0, p.1)) (cut_at by s)))
by_byte by b s true e = refl
by_byte by b s false e = ap (onto_pieces false b) e ∙ onto by b s (cut_at by s)

pieces_cut : (by : ℕ) (s : List ℕ) → pieces by s ≡ pieces_by by s (cut_at by s)
pieces_cut by [] = refl
pieces_cut by (b ∷ s) = by_byte by b s (eqb b by) (pieces_cut by s)

pub pieces_more : (by : ℕ) (s l rest : List ℕ) → Some (l, rest) ≡ cut_at by s → pieces by s ≡ (l, (pieces by rest).0 ∷ (pieces by rest).1)
pieces_more by s l rest e = pieces_cut by s ∙ ap (pieces_by by s) (sym e)

pub pieces_end : (by : ℕ) (s : List ℕ) → None ≡ cut_at by s → pieces by s ≡ (s, [])
pieces_end by s e = pieces_cut by s ∙ ap (pieces_by by s) (sym e)

-- the rest is shorter
abbrev left : ℕ → Option (List ℕ × List ℕ) → ℕ
left n None = n
left n (Some p) = suc (length p.1)

cut_left : (by : ℕ) (s : List ℕ) → left (length s) (cut_at by s) ≤ length s
cut_left by [] = omega arith
cut_left by (b ∷ s) = by_test (eqb b by) (cut_at by s) (cut_left by s)
  where
    by_test : (t : Bool) (o : Option (List ℕ × List ℕ)) → left (length s) o ≤ length s → left (suc (length s)) (cond t (Some ([], s)) (option_map (λ p. (b ∷ p.0, p.1)) o)) ≤ suc (length s)
    by_test true o h = omega arith
    by_test false None h = omega arith
    by_test false (Some p) h = omega arith

pub cut_shorter : (by : ℕ) (s l rest : List ℕ) → Some (l, rest) ≡ cut_at by s → length rest < length s
cut_shorter by s l rest e = let n = ap (left (length s)) e in let m = cut_left by s in omega arith

-- ---------------------------------------------------------------- the items of a list

-- the items ys, and then what r answers
abbrev pub after_items : {Y E : Type 0} → List Y → Result (List Y) E → Result (List Y) E
after_items ys r = carry (λ e. e) r (λ zs. Ok (ys ++ zs))

pub after_more : {Y E : Type 0} (ys : List Y) (y : Y) (r : Result (List Y) E) → after_items (ys ++ y ∷ []) r ≡ after_items ys (carry (λ e. e) r (λ zs. Ok (y ∷ zs)))
after_more ys y (Ok zs) = ap Ok (append_assoc ys (y ∷ []) zs)
after_more ys y (Err e) = refl

module _ {X : Type 0} (f : List ℕ → Result X LineFault) (by : ℕ) where
  -- one item more
  pub item_read : (s piece rest : List ℕ) (ys : List X) (y : X) → pieces by s ≡ (piece, (pieces by rest).0 ∷ (pieces by rest).1) → Ok y ≡ f piece → after_items (ys ++ y ∷ []) (read_list f by rest) ≡ after_items ys (read_list f by s)
  item_read s piece rest ys y cut e =
      after_more ys y (read_list f by rest)
      ∙ ap (λ o. after_items ys (carry (λ e. e) o (λ z. carry (λ e. e) (read_list f by rest) (λ zs. Ok (z ∷ zs))))) e
      ∙ ap (λ p. after_items ys (every f (p.0 ∷ p.1))) (sym cut)

  pub item_fault : (s piece : List ℕ) (more : List (List ℕ)) (ys : List X) (e : LineFault) → pieces by s ≡ (piece, more) → Err e ≡ f piece → Err e ≡ after_items ys (read_list f by s)
  item_fault s piece more ys e cut is =
      ap (λ o. after_items ys (carry (λ e. e) o (λ z. carry (λ e. e) (every f more) (λ zs. Ok (z ∷ zs))))) is
      ∙ ap (λ p. after_items ys (every f (p.0 ∷ p.1))) (sym cut)

  pub last_read : (s : List ℕ) (ys : List X) (y : X) → pieces by s ≡ (s, []) → Ok y ≡ f s → Ok (ys ++ y ∷ []) ≡ after_items ys (read_list f by s)
  last_read s ys y cut e =
      ap (λ o. after_items ys (carry (λ e. e) o (λ z. Ok (z ∷ [])))) e
      ∙ ap (λ p. after_items ys (every f (p.0 ∷ p.1))) (sym cut)
