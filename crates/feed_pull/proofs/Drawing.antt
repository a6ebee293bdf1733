-- Pulls one after another.
use Rattle.feed_pull.proofs.Imports.{◌≡◌, ◌≢◌, refl, sym, ap, subst, ◌∙◌, ℕ, List, [], ◌++◌, length, length-append, append_assoc, append-nil, arith, nil_from_length, Consumes-trans, Consumes-nil, SourceEnd, cut, Pulling, Pulls, IsDone, Going, Carries, ReadsNothing, Draws}
use Rattle.feed_pull.proofs.PullLemmas.{Follows-none, Follows-then, Pulls-front, Pulls-done}

pub Carries-none : (x : SourceEnd) (p : Pulling) → Carries x x p [] p
Carries-none x p = record {
  more = [];
  size = refl;
  consumes = Consumes-nil x.left;
  pulls = λ ahead taken given h. subst (λ t. Pulls ahead t (given ++ []) p) (sym (append-nil taken)) (subst (λ g. Pulls ahead taken g p) (sym (append-nil given)) h);
}

pub Carries-then : (x y z : SourceEnd) (a b c : Pulling) (ps qs : List (List ℕ)) → Carries x y a ps b → Carries y z b qs c → Carries x z a (ps ++ qs) c
Carries-then x y z a b c ps qs g h = record {
  more = g.more ++ h.more;
  size = h.size ∙ g.size;
  consumes = Consumes-trans x.left y.left z.left g.more h.more g.consumes h.consumes;
  pulls = λ ahead taken given k. subst (λ t. Pulls ahead t (given ++ (ps ++ qs)) c) (append_assoc taken g.more h.more)
      (subst (λ l. Pulls ahead ((taken ++ g.more) ++ h.more) l c) (append_assoc given ps qs) (h.pulls ahead (taken ++ g.more) (given ++ ps) (g.pulls ahead taken given k)));
}

pub draws_none : (x : SourceEnd) (p : Pulling) → Draws x x p p []
draws_none x p = record { carries = Carries-none x p; follows = Follows-none p.reading x; start = refl }

pub draws_then : (x y z : SourceEnd) (a b c : Pulling) (ps qs : List (List ℕ)) → Draws x y a b ps → Draws y z b c qs → Draws x z a c (ps ++ qs)
draws_then x y z a b c ps qs g h = record {
  carries = Carries-then x y z a b c ps qs g.carries h.carries;
  follows = Follows-then a.reading b.reading c.reading x y z g.follows h.follows;
  start = h.start ∙ g.start;
}

-- ------ a puller that is done gives nothing

pub none_given : (x y : SourceEnd) (a b : Pulling) (packets : List (List ℕ)) → Carries x y a packets b → (a.reading ≢ Going → ReadsNothing a b) → IsDone a
    → (ahead taken : List ℕ) (given : List (List ℕ)) → Pulls ahead taken given a → packets ≡ []
none_given x y a b packets carries still done ahead taken given h =
    let k = carries.pulls ahead taken given h in
    let none : carries.more ≡ [] = nil_from_length carries.more (omega (arith, h.size, k.size, length-append taken carries.more, (still done.stopped).taken)) in
    let all : (cut a.cutting.size (ahead ++ taken)).packets ≡ given = (Pulls-done ahead taken given a h done).packets in
    let front = Pulls-front ahead (taken ++ carries.more) (given ++ packets) b k in
    let same : taken ++ carries.more ≡ taken = ap (λ m. taken ++ m) none ∙ append-nil taken in
    let whole : given ≡ (given ++ packets) ++ front.0 = sym all ∙ (ap (λ t. (cut a.cutting.size (ahead ++ t)).packets) (sym same) ∙ (ap (λ s. (cut s (ahead ++ (taken ++ carries.more))).packets) (sym carries.size) ∙ front.1)) in
    nil_from_length packets (omega (arith, ap length whole, length-append (given ++ packets) front.0, length-append given packets))
