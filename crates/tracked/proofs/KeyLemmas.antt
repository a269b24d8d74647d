-- Keys and their states.
use Rattle.std.proofs.Common.{◌≡◌, Bool, true, false, cond, Option, None, Some, refl, ap, [], ◌∷◌, ◌++◌}
use Rattle.grid.specs.declared.shapes.Face.{Face}
use Rattle.tracked.specs.Keys.{Keys, state_of, put, same_face}

same_step : (g : Face) (s b : Bool) (keys put_keys : Keys) (here : Bool) (rest : Option Bool) → (rest ≡ Some b → put_keys ≡ keys) → cond here (Some s) rest ≡ Some b → cond here ((g, b) ∷ keys) ((g, s) ∷ put_keys) ≡ (g, s) ∷ keys
same_step g s b keys put_keys true rest more e = cc
same_step g s b keys put_keys false rest more e = ap (λ (ks : Keys). (g, s) ∷ ks) (more e)

-- a key that has the state already
pub put-same : (f : Face) (b : Bool) (keys : Keys) → state_of f keys ≡ Some b → put f b keys ≡ keys
put-same f b [] e = cc
put-same f b (k ∷ keys) e = same_step k.0 k.1 b keys (put f b keys) (same_face f k.0) (state_of f keys) (put-same f b keys) e

back_step : (f g : Face) (s b c : Bool) (keys : Keys) (here : Bool) (rest : Option Bool) → same_face f g ≡ here → (rest ≡ Some b → put f b (put f c keys) ≡ keys) → cond here (Some s) rest ≡ Some b
    → put f b (cond here ((g, c) ∷ keys) ((g, s) ∷ put f c keys)) ≡ (g, s) ∷ keys
back_step f g s b c keys true rest is more e = rw is (cc)
back_step f g s b c keys false rest is more e = rw is (ap (λ (ks : Keys). (g, s) ∷ ks) (more e))

-- a key that was there gets its state back
pub put-back : (f : Face) (b c : Bool) (keys : Keys) → state_of f keys ≡ Some b → put f b (put f c keys) ≡ keys
put-back f b c [] e = cc
put-back f b c (k ∷ keys) e = back_step f k.0 k.1 b c keys (same_face f k.0) (state_of f keys) refl (put-back f b c keys) e

state_step : (f g : Face) (s b c : Bool) (keys : Keys) (here : Bool) (rest : Option Bool) → same_face f g ≡ here → (rest ≡ Some b → state_of f (put f c keys) ≡ Some c) → cond here (Some s) rest ≡ Some b
    → state_of f (cond here ((g, c) ∷ keys) ((g, s) ∷ put f c keys)) ≡ Some c
state_step f g s b c keys true rest is more e = rw is refl
state_step f g s b c keys false rest is more e = rw is (more e)

pub state-put : (f : Face) (b c : Bool) (keys : Keys) → state_of f keys ≡ Some b → state_of f (put f c keys) ≡ Some c
state-put f b c [] e = cc
state-put f b c (k ∷ keys) e = state_step f k.0 k.1 b c keys (same_face f k.0) (state_of f keys) refl (state-put f b c keys) e

new_step : (g f : Face) (s b : Bool) (keys put_keys : Keys) (here : Bool) (rest : Option Bool) → (rest ≡ None → put_keys ≡ keys ++ (f, b) ∷ []) → cond here (Some s) rest ≡ None → cond here ((g, b) ∷ keys) ((g, s) ∷ put_keys) ≡ (g, s) ∷ (keys ++ (f, b) ∷ [])
new_step g f s b keys put_keys true rest more e = cc
new_step g f s b keys put_keys false rest more e = ap (λ (ks : Keys). (g, s) ∷ ks) (more e)

-- a new key goes last
pub put-new : (f : Face) (b : Bool) (keys : Keys) → state_of f keys ≡ None → put f b keys ≡ keys ++ (f, b) ∷ []
put-new f b [] e = refl
put-new f b (k ∷ keys) e = new_step k.0 f k.1 b keys (put f b keys) (same_face f k.0) (state_of f keys) (put-new f b keys) e
