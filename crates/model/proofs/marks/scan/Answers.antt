use Rattle.std.proofs.Common.{◌≡◌, Bool, List, [], ◌∷◌, ◌++◌, ◌∙◌}
use Rattle.model.proofs.Scans.{scan_step, scan_end}
use Rattle.model.proofs.marks.scan.Goals as goal

-- what was pushed is the test of the item, by the marks that were there
pushed : {X : Type 0} (f : List Bool → X → Bool) (ms ns new : List Bool) (x y : X) (b : Bool) → new ≡ ms ++ b ∷ [] → b ≡ f ns x → ns ≡ ms → x ≡ y → new ≡ ms ++ f ms y ∷ []
pushed f ms ns new x y b p q r s = cc

pub loop-x-preserved : goal.loop-x-preserved
loop-x-preserved g c = λ f h.
    scan_step f _ _ _ _ _ c.loop-x-test.true (pushed f _ _ _ _ _ _ c.in_ok-push.ensures.items (h _ _ _ c.test-mark.ensures) c.as_slice.ensures.value c.x-item.is) ∙ c.loop-x.invariant f h

pub returns : goal.returns
returns g c = λ f h. scan_end f _ _ _ c.loop-x-test.false ∙ c.loop-x.invariant f h
