-- A line that has begun, and how it goes on: by a part of what is held, by one more read, and to its end.
use Rattle.std.proofs.Common.{◌≡◌, ◌<◌, ◌≤◌, ◌+◌, ℕ, List, [], ◌∷◌, ◌++◌, Bool, true, false, length, refl, ap, sym, ◌∙◌, subst, arith, length-append, append_assoc}
use Rattle.std.proofs.lemmas.List.{append-nil}
use Rattle.std.specs.Prelude.{Option, Some, None, Result, Ok, Err, IsErrAnd, IsErrOf}
use Rattle.std.specs.Option.{option_map}
use Rattle.run_io.specs.Bytes.{IsSpent, Takes}
use Rattle.line_reader.specs.Lines.{feed, IsOpen, bound, kept, most}
use Rattle.line_reader.specs.Reading.{IsBegun, IsEnded, IsFound, IsMore, IsOverrun, IsPart, IsRead, IsSpentBy, IsStopped, IsTooLong, last_found}
use Rattle.line_reader.proofs.Feeds.{open_append}
use Rattle.line_reader.proofs.Growing.{short_is, long_is}

takes_none : (left : Option (List ℕ)) → Takes left left []
takes_none None = refl
takes_none (Some l) = refl

takes_more : (a b c : Option (List ℕ)) (p q : List ℕ) → Takes a b p → Takes b c q → Takes a c (p ++ q)
takes_more a b None p q e f = e ∙ ap (option_map (λ rest. p ++ rest)) f
takes_more a b (Some l) p q e f = e ∙ ap (option_map (λ rest. p ++ rest)) f ∙ ap Some (sym (append_assoc p q l))

pub begun : (old : List ℕ) (left : Option (List ℕ)) (count : ℕ) (line : Option (List ℕ)) → line ≡ Some [] → IsBegun old old left left count count line
begun old left count line e = record {
  read = [];
  text = [];
  is_read = record { taken = takes_none left; counted = omega arith };
  is_line = tt;
  is_kept = e;
  parts = append-nil old;
}

module _ (old now new : List ℕ) (left left' : Option (List ℕ)) (count count' : ℕ) (line line' : Option (List ℕ)) (b : IsBegun old now left left' count count' line) where
  pub ended : IsPart now new line line' true → IsEnded old new left left' count count' line'
  ended p = record {
    read = b.read;
    text = b.text ++ p.0;
    is_read = b.is_read;
    is_line = open_append b.text p.0 b.is_line p.1;
    is_kept = p.3 b.text b.is_kept;
    parts = b.parts ∙ ap (λ l. b.text ++ l) p.2 ∙ sym (append_assoc b.text p.0 (feed ∷ new));
  }

  pub opened : IsPart now new line line' false → IsBegun old new left left' count count' line'
  opened p = record {
    read = b.read;
    text = b.text ++ now;
    is_read = b.is_read;
    is_line = open_append b.text now b.is_line p.0;
    is_kept = p.2 b.text b.is_kept;
    parts = b.parts ∙ sym (append-nil (b.text ++ now)) ∙ ap (λ l. (b.text ++ now) ++ l) (sym p.1);
  }

module _ (old now new : List ℕ) (left left' left'' : Option (List ℕ)) (count count' count'' : ℕ) (line : Option (List ℕ)) (b : IsBegun old now left left' count count' line) (none : now ≡ []) where
  whole : old ++ b.read ≡ b.text
  whole = b.parts ∙ ap (λ l. b.text ++ l) none ∙ append-nil b.text

  pub more : IsRead left' left'' count' count'' new → IsBegun old new left left'' count count'' line
  more r = record {
    read = b.read ++ new;
    text = b.text;
    is_read = record {
      taken = takes_more left left' left'' b.read new b.is_read.taken r.taken;
      counted = omega (arith, r.counted, b.is_read.counted, length-append b.read new);
    };
    is_line = b.is_line;
    is_kept = b.is_kept;
    parts = sym (append_assoc old b.read new) ∙ ap (λ l. l ++ new) whole;
  }

  pub stopped : left'' ≡ left' → IsStopped old left left''
  stopped e = record {
    read = b.read;
    taken = b.is_read.taken ∙ ap (option_map (λ rest. b.read ++ rest)) (sym e);
    is_line = subst IsOpen (sym whole) b.is_line;
  }

  pub overrun : IsMore left' left'' count' → IsOverrun old left left'' count
  overrun m = record {
    read = b.read;
    more = m.more;
    taken = takes_more left left' left'' b.read m.more b.is_read.taken m.taken;
    counted = sym b.is_read.counted ∙ m.full;
    some = m.some;
    is_line = subst IsOpen (sym whole) b.is_line;
  }

spent_after : (left left' : Option (List ℕ)) (bs : List ℕ) → bs ≡ [] → Takes left left' bs → IsSpent left → (left ≡ left') × IsSpent left'
spent_after left None bs none e spent = (e, tt)
spent_after left (Some l) bs none e spent =
    let f : left ≡ Some l = e ∙ ap (λ p. Some (p ++ l)) none in (f, subst IsSpent f spent)

-- at the end of the bytes
pub last : (old now new : List ℕ) (left left' left'' : Option (List ℕ)) (count count' count'' : ℕ) (line : Option (List ℕ)) → IsBegun old now left left' count count' line
    → now ≡ [] → IsRead left' left'' count' count'' new → new ≡ [] → IsSpent left' → IsSpentBy old new left left'' count count'' line
last old now new left left' left'' count count' count'' line b none r nothing spent =
    let after : (left' ≡ left'') × IsSpent left'' = spent_after left' left'' new nothing r.taken spent in
    let e : old ++ b.read ≡ b.text = whole old now new left left' left'' count count' count'' line b none in record {
      read = b.read;
      is_read = record {
        taken = b.is_read.taken ∙ ap (option_map (λ rest. b.read ++ rest)) after.0;
        counted = omega (arith, r.counted, b.is_read.counted, ap length nothing);
      };
      is_line = subst IsOpen (sym e) b.is_line;
      is_kept = b.is_kept ∙ ap kept (sym e);
      none_held = nothing;
      spent = after.1;
    }

-- what an error is that `?` hands on
pub of_fault : {X Y E : Type 0} (a : Result X E) (e v : E) → IsErrAnd a (λ f. f ≡ e) → IsErrOf a v → IsErrOf {T = Y} (Err e) v
of_fault (Ok x) e v h k = absurd h
of_fault (Err f) e v h k = let j : f ≡ v = cc in ap Err (sym h ∙ j)

pub none_of : (l : List ℕ) (n : ℕ) → n ≡ length l → n ≡ 0 → l ≡ []
none_of [] n e z = refl
none_of (x ∷ l) n e z = absurd (omega (arith, e, z))

-- what is found there
pub found_at : (old new : List ℕ) (left left' : Option (List ℕ)) (count count' : ℕ) (line : Option (List ℕ)) → (s : IsSpentBy old new left left' count count' line)
    → IsFound old new left left' count count' line (last_found line)
found_at old new left left' count count' (Some []) s = (s, sym (short_is (old ++ s.read) [] s.is_kept).0)
found_at old new left left' count count' (Some (b ∷ bs)) s =
    (s, λ e. let f : b ∷ bs ≡ [] = (short_is (old ++ s.read) (b ∷ bs) s.is_kept).0 ∙ e in cc)
found_at old new left left' count count' None s =
    (s, λ e. let f : None ≡ kept [] = s.is_kept ∙ ap kept e in let g : None ≡ Some [] = f in cc)

-- a line past the bound
pub too_long : (old now : List ℕ) (left left' : Option (List ℕ)) (count count' : ℕ) (line : Option (List ℕ)) → IsBegun old now left left' count count' line
    → now ≡ [] → line ≡ None → IsTooLong old left left'
too_long old now left left' count count' line b none long =
    let e : old ++ b.read ≡ b.text = b.parts ∙ ap (λ l. b.text ++ l) none ∙ append-nil b.text in
    let h : bound < length b.text = long_is b.text (sym long ∙ b.is_kept) in record {
      read = b.read;
      taken = b.is_read.taken;
      is_line = subst IsOpen (sym e) b.is_line;
      long = omega (arith, h, ap length e);
    }
