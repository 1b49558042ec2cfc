-- How what comes of parts is joined.
use Rattle.std.proofs.Common.{◌≡◌, Bool, true, false, ◌&&◌, ◌||◌, not, refl, sym, ap, ◌∙◌}
use Rattle.default_defs.specs.Found.{Found, refused, ended, endless, is_ended, if_so, both}

pub both_alone : (x : Found) → both x ended ≡ x
both_alone refused = refl
both_alone ended = refl
both_alone endless = refl

pub both_along : (x y z : Found) → both (both x y) z ≡ both x (both y z)
both_along refused y z = refl
both_along ended y z = refl
both_along endless y z = refl

-- one more that is read stands before those that are left
pub one_more : (before part rest now all : Found) → both before part ≡ now → both before (both part rest) ≡ all → both now rest ≡ all
one_more before part rest now all e h = ap (λ x. both x rest) (sym e) ∙ both_along before part rest ∙ h

-- what isn't ended stays, whatever is read
pub stays : (x y : Found) → is_ended x ≡ false → both x y ≡ x
stays refused y h = refl
stays ended y h = absurd (cc)
stays endless y h = refl

pub ended_is : (x : Found) → is_ended x ≡ true → x ≡ ended
ended_is refused h = absurd (cc)
ended_is ended h = refl
ended_is endless h = absurd (cc)

-- what comes after what is ended
pub goes_on : (x y : Found) → is_ended x ≡ true → both x y ≡ y
goes_on x y h = ap (λ z. both z y) (ended_is x h)

pub where_not : (b : Bool) (x : Found) → b ≡ false → if_so b x ≡ refused
where_not b x h = ap (λ c. if_so c x) h

pub where_so : (b : Bool) (x : Found) → b ≡ true → if_so b x ≡ x
where_so b x h = ap (λ c. if_so c x) h

-- what is closed holds nothing more
pub closed_same : (closed b c : Bool) → b ≡ not c → (not closed || b) ≡ not (closed && c)
closed_same true b c h = h
closed_same false b c h = refl
