-- Acts done one after the other: what is kept, and what is told.
use Rattle.std.proofs.Common.{◌≡◌, List, [], ◌∷◌, ◌++◌, ◌&&◌, Bool, true, false, cond, Some, None, refl, ap, sym, ◌∙◌, append_assoc, append-nil, subst, length, arith}
use Rattle.std.specs.Prelude.{Option, option_map, is_some, Result, Ok, Err, OnErr}
use Rattle.std.specs.Str.{bytes_eq}
use Rattle.std.proofs.Math.Path.{fun_ext}
use Rattle.std.proofs.lemmas.Slice.Eq.{bytes_eq-Decides}
use Rattle.token_trees.specs.declared.token.Span.{Span}
use Rattle.token_trees.specs.Token.{Name, site}
use Rattle.attr_parts.specs.Diagnostics.{DiagnosticD, TellsFront, duplicate}
use Rattle.attr_parts.proofs.Steps.{tells_none, tells_more, tells_all, tells_on}
use Rattle.attr_defs.specs.declared.row.Half.{Half}
use Rattle.attr_defs.specs.declared.row.Half.TheVariants.{Whole, Serialize, Deserialize}
use Rattle.attr_defs.specs.Acts.{ActD, tells, sets, offers, adds, SlotD, SettingD, settings, first_of, added, told_by, told_after, told, repeated, same_slot, same_half, values_of}
use Rattle.attr_acts.specs.declared.act.Act.{Act}
use Rattle.attr_acts.specs.Views.{acts_view}
use Rattle.attr_acts.specs.Kept.{keep, keep_by, kept_on}

pub is_there : {A B : Type 0} → (f : A → B) (o : Option A) → is_some (option_map f o) ≡ is_some o
is_there f None = refl
is_there f (Some x) = refl

pub kept_some : (ks : List SettingD) (x : SettingD) → is_some (first_of x.slot ks) ≡ true → keep ks x ≡ ks
kept_some ks x h = by (first_of x.slot ks) h where
  by : (o : Option SettingD) → is_some o ≡ true → keep_by o ks x ≡ ks
  by None h = cc
  by (Some y) h = refl

pub kept_none : (ks : List SettingD) (x : SettingD) → is_some (first_of x.slot ks) ≡ false → keep ks x ≡ ks ++ x ∷ []
kept_none ks x h = by (first_of x.slot ks) h where
  by : (o : Option SettingD) → is_some o ≡ false → keep_by o ks x ≡ ks ++ x ∷ []
  by None h = refl
  by (Some y) h = cc

pub repeated_some : (o : Option SettingD) (s : SlotD) (at : Span) → is_some o ≡ true → repeated o s at ≡ record { kind = duplicate s.name; span = at } ∷ []
repeated_some None s at h = cc
repeated_some (Some x) s at h = refl

pub repeated_none : (o : Option SettingD) (s : SlotD) (at : Span) → is_some o ≡ false → repeated o s at ≡ []
repeated_none None s at h = refl
repeated_none (Some x) s at h = cc

-- the settings of the same slots, each first one the same
abbrev pub SameFirst : List SettingD → List SettingD → Type 0
SameFirst ks xs = (s : SlotD) → first_of s ks ≡ first_of s xs

-- the first of both lists
abbrev or_first : Option SettingD → Option SettingD → Option SettingD
or_first None o = o
or_first (Some x) o = Some x

or_none : (o : Option SettingD) → or_first o None ≡ o
or_none None = refl
or_none (Some x) = refl

first_append : (s : SlotD) (xs ys : List SettingD) → first_of s (xs ++ ys) ≡ or_first (first_of s xs) (first_of s ys)
first_append s [] ys = refl
first_append s (x ∷ xs) ys =
    let e = first_append s xs ys in
    elim (same_slot x.slot s) as (λ b. cond b (Some x) (first_of s (xs ++ ys)) ≡ or_first (cond b (Some x) (first_of s xs)) (first_of s ys)) [ true ↦ refl | false ↦ e ]

same_half_is : (a b : Half) → same_half a b ≡ true → a ≡ b
same_half_is Whole Whole h = refl
same_half_is Whole Serialize h = cc
same_half_is Whole Deserialize h = cc
same_half_is Serialize Whole h = cc
same_half_is Serialize Serialize h = refl
same_half_is Serialize Deserialize h = cc
same_half_is Deserialize Whole h = cc
same_half_is Deserialize Serialize h = cc
same_half_is Deserialize Deserialize h = refl

and_left : (a b : Bool) → (a && b) ≡ true → a ≡ true
and_left true b h = refl
and_left false b h = cc

and_right : (a b : Bool) → (a && b) ≡ true → b ≡ true
and_right true b h = h
and_right false b h = cc

same_slot_is : (a b : SlotD) → same_slot a b ≡ true → a ≡ b
same_slot_is a b h =
    let n : a.name ≡ b.name = (bytes_eq-Decides a.name b.name).0 (and_right (same_half a.half b.half) (bytes_eq a.name b.name) h) in
    let f : a.half ≡ b.half = same_half_is a.half b.half (and_left (same_half a.half b.half) (bytes_eq a.name b.name) h) in
    ap (λ x. record { name = x; half = a.half }) n ∙ ap (λ x. record { name = b.name; half = x }) f

-- a setting whose slot has one changes nothing
later_by : (s : SlotD) (xs : List SettingD) (x y : SettingD) → first_of x.slot xs ≡ Some y → (b : Bool) → same_slot x.slot s ≡ b → first_of s xs ≡ or_first (first_of s xs) (cond b (Some x) None)
later_by s xs x y h true e =
    let k : first_of s xs ≡ Some y = ap (λ t. first_of t xs) (sym (same_slot_is x.slot s e)) ∙ h in
    k ∙ ap (λ o. or_first o (Some x)) (sym k)
later_by s xs x y h false e = sym (or_none (first_of s xs))

later : (s : SlotD) (xs : List SettingD) (x y : SettingD) → first_of x.slot xs ≡ Some y → first_of s xs ≡ first_of s (xs ++ x ∷ [])
later s xs x y h = later_by s xs x y h (same_slot x.slot s) refl ∙ sym (first_append s xs (x ∷ []))

keep_same_by : (ks xs : List SettingD) (x : SettingD) → SameFirst ks xs → (o : Option SettingD) → first_of x.slot ks ≡ o → (s : SlotD) → first_of s (keep_by o ks x) ≡ first_of s (xs ++ x ∷ [])
keep_same_by ks xs x h None e s = first_append s ks (x ∷ []) ∙ ap (λ o. or_first o (first_of s (x ∷ []))) (h s) ∙ sym (first_append s xs (x ∷ []))
keep_same_by ks xs x h (Some y) e s = h s ∙ later s xs x y (sym (h x.slot) ∙ e)

keep_same : (ks xs : List SettingD) (x : SettingD) → SameFirst ks xs → SameFirst (keep ks x) (xs ++ x ∷ [])
keep_same ks xs x h s = keep_same_by ks xs x h (first_of x.slot ks) refl s

settings_append : (xs ys : List ActD) → settings (xs ++ ys) ≡ settings xs ++ settings ys
settings_append [] ys = refl
settings_append (tells d ∷ xs) ys = settings_append xs ys
settings_append (sets s at v ∷ xs) ys = ap (λ l. record { slot = s; at = at; value = v } ∷ l) (settings_append xs ys)
settings_append (offers s v ∷ xs) ys = ap (λ l. record { slot = s; at = site; value = v } ∷ l) (settings_append xs ys)
settings_append (adds n ∷ xs) ys = settings_append xs ys

same_none : (ks : List SettingD) (xs : List ActD) (a : ActD) → SameFirst ks (settings xs) → settings (a ∷ []) ≡ [] → SameFirst ks (settings (xs ++ a ∷ []))
same_none ks xs a h e s = h s ∙ ap (first_of s) (sym (append-nil (settings xs)) ∙ ap (λ l. settings xs ++ l) (sym e) ∙ sym (settings_append xs (a ∷ [])))

same_one : (ks : List SettingD) (xs : List ActD) (a : ActD) (x : SettingD) → SameFirst ks (settings xs) → settings (a ∷ []) ≡ x ∷ [] → SameFirst (keep ks x) (settings (xs ++ a ∷ []))
same_one ks xs a x h e s = keep_same ks (settings xs) x h s ∙ ap (first_of s) (ap (λ l. settings xs ++ l) (sym e) ∙ sym (settings_append xs (a ∷ [])))

kept_step : (ks : List SettingD) (xs : List ActD) (a : ActD) → SameFirst ks (settings xs) → SameFirst (kept_on ks a) (settings (xs ++ a ∷ []))
kept_step ks xs (tells d) h = same_none ks xs (tells d) h refl
kept_step ks xs (sets s at v) h = same_one ks xs (sets s at v) (record { slot = s; at = at; value = v }) h refl
kept_step ks xs (offers s v) h = same_one ks xs (offers s v) (record { slot = s; at = site; value = v }) h refl
kept_step ks xs (adds n) h = same_none ks xs (adds n) h refl

told_same : (ks xs : List SettingD) (a : ActD) → SameFirst ks xs → told_by ks a ≡ told_by xs a
told_same ks xs (tells d) h = refl
told_same ks xs (sets s at v) h = ap (λ o. repeated o s at) (h s)
told_same ks xs (offers s v) h = refl
told_same ks xs (adds n) h = refl

-- what acts tell, and what is kept, where those are kept before
abbrev pub told_rest : List SettingD → List ActD → List DiagnosticD
told_rest ks [] = []
told_rest ks (a ∷ xs) = told_by ks a ++ told_rest (kept_on ks a) xs

abbrev pub kept_rest : List SettingD → List ActD → List SettingD
kept_rest ks [] = ks
kept_rest ks (a ∷ xs) = kept_rest (kept_on ks a) xs

told_is : (ks : List SettingD) (before xs : List ActD) → SameFirst ks (settings before) → told_rest ks xs ≡ told_after before xs
told_is ks before [] h = refl
told_is ks before (a ∷ xs) h =
    ap (λ l. l ++ told_rest (kept_on ks a) xs) (told_same ks (settings before) a h)
    ∙ ap (λ l. told_by (settings before) a ++ l) (told_is (kept_on ks a) (before ++ a ∷ []) xs (kept_step ks before a h))

kept_is : (ks : List SettingD) (before xs : List ActD) → SameFirst ks (settings before) → SameFirst (kept_rest ks xs) (settings (before ++ xs))
kept_is ks before [] h s = h s ∙ ap (λ l. first_of s (settings l)) (sym (append-nil before))
kept_is ks before (a ∷ xs) h s =
    kept_is (kept_on ks a) (before ++ a ∷ []) xs (kept_step ks before a h) s ∙ ap (λ l. first_of s (settings l)) (append_assoc before (a ∷ []) xs)

nothing_kept : SameFirst [] (settings [])
nothing_kept s = refl

pub all_told : (acts : List ActD) → told_rest [] acts ≡ told acts
all_told acts = told_is [] [] acts nothing_kept

pub all_kept : (acts : List ActD) → (λ (s : SlotD). first_of s (kept_rest [] acts)) ≡ values_of acts
all_kept acts = fun_ext (λ s. kept_is [] [] acts nothing_kept s)

pub added_append : (xs ys : List ActD) → added (xs ++ ys) ≡ added xs ++ added ys
added_append [] ys = refl
added_append (tells d ∷ xs) ys = added_append xs ys
added_append (sets s at v ∷ xs) ys = added_append xs ys
added_append (offers s v ∷ xs) ys = added_append xs ys
added_append (adds n ∷ xs) ys = ap (λ l. n ∷ l) (added_append xs ys)

-- acts that are done in part: those that are left do the rest
pub record Doing (first now : List DiagnosticD) (ks : List SettingD) (ns : List Name) (left acts : List ActD) : Type 0 where
  pub kept : kept_rest ks left ≡ kept_rest [] acts
  pub names : ns ++ added left ≡ added acts
  pub told : now ++ told_rest ks left ≡ first ++ told_rest [] acts
  pub front : TellsFront first now (told_rest [] acts)

pub doing_none : (first now : List DiagnosticD) (ks : List SettingD) (ns : List Name) (left acts : List ActD) → now ≡ first → ks ≡ [] → ns ≡ [] → left ≡ acts → Doing first now ks ns left acts
doing_none first now ks ns left acts e k n h = record {
  kept = ap (λ l. kept_rest l left) k ∙ ap (kept_rest []) h;
  names = ap (λ l. l ++ added left) n ∙ ap added h;
  told = ap (λ l. l ++ told_rest ks left) e ∙ ap (λ l. first ++ told_rest l left) k ∙ ap (λ l. first ++ told_rest [] l) h;
  front = tells_none first now (told_rest [] acts) e;
}

-- an act more
pub doing_on : (first now next : List DiagnosticD) (ks ks' : List SettingD) (ns ns' : List Name) (a : ActD) (left rest acts : List ActD)
    → Doing first now ks ns left acts → left ≡ a ∷ rest → ks' ≡ kept_on ks a → ns' ≡ ns ++ added (a ∷ []) → next ≡ now ++ told_by ks a → Doing first next ks' ns' rest acts
doing_on first now next ks ks' ns ns' a left rest acts d el ek en et =
    let told : next ++ told_rest ks' rest ≡ now ++ told_rest ks left =
    ap (λ l. l ++ told_rest ks' rest) et ∙ append_assoc now (told_by ks a) (told_rest ks' rest) ∙ ap (λ k. now ++ (told_by ks a ++ told_rest k rest)) ek ∙ ap (λ l. now ++ told_rest ks l) (sym el) in
    record {
      kept = ap (λ k. kept_rest k rest) ek ∙ ap (kept_rest ks) (sym el) ∙ d.kept;
      names = ap (λ l. l ++ added rest) en ∙ append_assoc ns (added (a ∷ [])) (added rest) ∙ ap (λ l. ns ++ l) (sym (added_append (a ∷ []) rest) ∙ ap added (sym el)) ∙ d.names;
      told = told ∙ d.told;
      front = tells_on first now next (told_rest [] acts) (told_rest ks left) d.front (sym d.told)
          (let P : List DiagnosticD → Type 0 = λ l. TellsFront now next l in
          subst P (ap (told_rest ks) (sym el)) (tells_more now next (told_by ks a) (told_rest (kept_on ks a) rest) (tells_all now next (told_by ks a) et)));
    }

-- where memory runs out a front was told
pub doing_stops : (first now next : List DiagnosticD) (ks : List SettingD) (ns : List Name) (left acts : List ActD) → Doing first now ks ns left acts → next ≡ now → TellsFront first next (told acts)
doing_stops first now next ks ns left acts d e =
    let P : List DiagnosticD → Type 0 = λ l. TellsFront first l (told acts) in
    let Q : List DiagnosticD → Type 0 = λ l. TellsFront first now l in
    subst P (sym e) (subst Q (all_told acts) d.front)

-- all are done
pub done_values : (first now : List DiagnosticD) (ks : List SettingD) (ns : List Name) (left acts : List ActD) → Doing first now ks ns left acts → left ≡ [] → (λ (s : SlotD). first_of s ks) ≡ values_of acts
done_values first now ks ns left acts d e =
    let k : ks ≡ kept_rest [] acts = ap (kept_rest ks) (sym e) ∙ d.kept in
    ap (λ l. λ (s : SlotD). first_of s l) k ∙ all_kept acts

pub done_names : (first now : List DiagnosticD) (ks : List SettingD) (ns : List Name) (left acts : List ActD) → Doing first now ks ns left acts → left ≡ [] → ns ≡ added acts
done_names first now ks ns left acts d e = sym (append-nil ns) ∙ ap (λ l. ns ++ added l) (sym e) ∙ d.names

pub done_told : (first now : List DiagnosticD) (ks : List SettingD) (ns : List Name) (left acts : List ActD) → Doing first now ks ns left acts → left ≡ [] → now ≡ first ++ told acts
done_told first now ks ns left acts d e =
    sym (append-nil now) ∙ ap (λ l. now ++ told_rest ks l) (sym e) ∙ d.told ∙ ap (λ l. first ++ l) (all_told acts)

pub always_err : {T E : Type 0} → (r : Result T E) (P : Type 0) → P → OnErr r P
always_err (Ok x) P h = tt
always_err (Err e) P h = h

-- none are left
pub nothing_left : (xs : List Act) → length xs ≡ 0 → acts_view xs ≡ []
nothing_left [] h = refl
nothing_left (x ∷ xs) h = absurd (omega arith)
