-- Maps, read again: their names are written as they were read, and so stand in the same order.
use Rattle.std.proofs.Common.{◌≡◌, ℕ, List, [], ◌∷◌, Bool, refl, sym, ap, ◌∙◌, subst}
use Rattle.std.specs.Ordering.{nat_cmp}
use Rattle.std.specs.Cmp.Lexicographic.{slice_cmp}
use Rattle.json_value.specs.Value.{Value, Members, text, member, no_members, members, IsBelowFirst}
use Rattle.schema_defs.specs.Texts.{Relations}
use Rattle.model_defs.specs.Types.{TypeModel}
use Rattle.model_defs.specs.Model.{ContainerModel, ConversionsD}
use Rattle.model_defs.specs.Settled.{text_of, put_all}
use Rattle.model_defs.specs.Flat.{MembersRise}
use Rattle.typed_defs.specs.Typed.{Typed, pairs}
use Rattle.typed_defs.specs.Written.{written, pairs_in, pairs_write}
use Rattle.reading_defs.specs.Reading.{Read, taken, under, here, paired, followed, pairs_read, value_reader, member_readers}
use Rattle.writing_laws.proofs.Taken.{one_taken, under_taken, here_taken, followed_taken, paired_taken}
use Rattle.writing_laws.proofs.Members.{AllPass, put_rising}
use Rattle.writing_laws.proofs.Back.{ReadsAgain, MembersBack}

module _ (models : List ContainerModel) (cs : ConversionsD) (r : Relations) (q q' : ℕ → TypeModel → Read Typed) where
  -- the pairs of the members: each name is written as it was, and each value is read again
  abbrev pub Pairs : TypeModel → TypeModel → List (Typed × Typed) → Members → Type 0
  Pairs k t [] no_members = Unit {0}
  Pairs k t (e ∷ es) (member n v ms) =
      (written models k e.0 ≡ text n) × ((value_reader models cs r q' (text n)).as_type k ≡ taken e.0) × ReadsAgain models cs r q q' t e.1 × Pairs k t es ms
  Pairs k t _ _ = ⊥

  abbrev pub pairs_put : TypeModel → TypeModel → List (Typed × Typed) → List (List ℕ × Value)
  pairs_put k t es = pairs_write k t (pairs_in models (pairs es))

  pub pairs_each : (k t : TypeModel) (ms : Members) (es : List (Typed × Typed)) → MembersBack models cs r q q' ms → pairs_read k t (member_readers models cs r q ms) ≡ taken es → Pairs k t es ms
  pairs_each k t no_members es b e = subst (λ z. Pairs k t z no_members) (one_taken [] es e) tt
  pairs_each k t (member n v ms) es b e =
      let key = (value_reader models cs r q (text n)).as_type k in
      let one = (value_reader models cs r q v).as_type t in
      let g = followed_taken (under n (paired (here key) one)) (pairs_read k t (member_readers models cs r q ms)) es e in
      let p = paired_taken (here key) one g.0 (under_taken n (paired (here key) one) g.0 g.2) in
      let name = b.0.as_type k p.0 (here_taken key p.0 p.2) in
      let back = b.1.as_type t p.1 p.3 in
      let rec = pairs_each k t ms g.1 b.2 g.3 in
      subst (λ z. Pairs k t z (member n v ms)) g.4
      (subst (λ z. Pairs k t (z ∷ g.1) (member n v ms)) p.4
      (sym name.alike, subst (λ w. (value_reader models cs r q' w).as_type k ≡ taken p.0) (sym name.alike) name.again, back.again, rec))

  pub pairs_again : (k t : TypeModel) (es : List (Typed × Typed)) (ms : Members) → Pairs k t es ms → pairs_read k t (member_readers models cs r q' (members (pairs_put k t es))) ≡ taken es
  pairs_again k t [] no_members b = refl
  pairs_again k t [] (member n v ms) b = absurd b
  pairs_again k t (e ∷ es) no_members b = absurd b
  pairs_again k t (e ∷ es) (member n v ms) b =
      let key : (value_reader models cs r q' (text (text_of [] (written models k e.0)))).as_type k ≡ taken e.0 = ap (λ w. (value_reader models cs r q' (text (text_of [] w))).as_type k) b.0 ∙ b.1 in
      let rec = pairs_again k t es ms b.3 in
      λ j. followed (under (text_of [] (written models k e.0)) (paired (here (key j)) (b.2 j))) (rec j)

  pairs_below : (k t : TypeModel) (es : List (Typed × Typed)) (ms : Members) (l n : List ℕ) → Pairs k t es ms → l ≡ n → IsBelowFirst n ms → IsBelowFirst l (members (pairs_put k t es))
  pairs_below k t [] no_members l n b e h = tt
  pairs_below k t [] (member m v ms) l n b e h = absurd b
  pairs_below k t (d ∷ es) no_members l n b e h = absurd b
  pairs_below k t (d ∷ es) (member m v ms) l n b e h = (λ i. slice_cmp nat_cmp (e i) (text_of [] (b.0 i))) ∙ h

  pub pairs_rise : (k t : TypeModel) (es : List (Typed × Typed)) (ms : Members) → Pairs k t es ms → MembersRise ms → MembersRise (members (pairs_put k t es))
  pairs_rise k t [] no_members b h = tt
  pairs_rise k t [] (member m v ms) b h = absurd b
  pairs_rise k t (d ∷ es) no_members b h = absurd b
  pairs_rise k t (d ∷ es) (member m v ms) b h = (pairs_below k t es ms (text_of [] (written models k d.0)) m b.3 (ap (text_of []) b.0) h.0, pairs_rise k t es ms b.3 h.1)

  pub pairs_pass : (p : List ℕ → Bool) (k t : TypeModel) (es : List (Typed × Typed)) (ms : Members) → Pairs k t es ms → AllPass p ms → AllPass p (members (pairs_put k t es))
  pairs_pass p k t [] no_members b h = tt
  pairs_pass p k t [] (member m v ms) b h = absurd b
  pairs_pass p k t (d ∷ es) no_members b h = absurd b
  pairs_pass p k t (d ∷ es) (member m v ms) b h = (ap (λ w. p (text_of [] w)) b.0 ∙ h.0, pairs_pass p k t es ms b.3 h.1)

  pub pairs_none : (k t : TypeModel) (es : List (Typed × Typed)) → Pairs k t es no_members → members (pairs_put k t es) ≡ no_members
  pairs_none k t [] b = refl
  pairs_none k t (e ∷ es) b = absurd b

  pub pairs_put_is : (k t : TypeModel) (es : List (Typed × Typed)) (ms : Members) → Pairs k t es ms → MembersRise ms → put_all (pairs_put k t es) no_members ≡ members (pairs_put k t es)
  pairs_put_is k t es ms b h = put_rising (pairs_put k t es) (pairs_rise k t es ms b h)
