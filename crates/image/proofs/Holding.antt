-- Every allowed world has an image.
use Rattle.std.proofs.Common.{◌≡◌, ℕ, ◌≤◌, min, Ok, List, length, sym, refl, ap, ◌∙◌, subst}
use Rattle.rights.specs.World.{World, Sizes, Object}
use Rattle.rights.specs.Promise.{HoldsAll}
use Rattle.rv32.specs.declared.registers.Cpu.{Cpu}
use Rattle.image.specs.declared.census.Kinds.{Kinds}
use Rattle.image.specs.Meaning.{encode, world_of, births_all, frames}
use Rattle.image.specs.declared.census.Census.{Census}
use Rattle.image.specs.Written.{ReadsBack}
use Rattle.image.specs.Allowed.{Bytes, Taken, Allowed, Holds}
use Rattle.image.proofs.Stands.{At, Alls, at_whole}
use Rattle.image.proofs.Births.{order_all}
use Rattle.image.specs.Verdict.{verdict, built, all_kinds}
use Rattle.image.proofs.Objects.{LetIn}
use Rattle.image.proofs.Whole.{parts, is_taken, objects_come}
use Rattle.image.proofs.Carried.{placed_all, all_good, all_let_in, thin_let_in}
use Rattle.image.proofs.Small.{low_image}

-- bytes that are the image of the world's objects
holds_at : (ks : Kinds) (lent : ℕ) (z : Sizes) (w : World Cpu) → z.bytes ≡ 4096 → z.pages ≡ 64 → Allowed z w → Alls (λ _ x. LetIn ks x) 0 w.objects → frames w.objects ≤ min lent 4096 → (bs : List ℕ) → bs ≡ encode w.objects
    → Bytes bs × ((c : Census) × (verdict ks lent bs ≡ Ok c)) × (world_of bs ≡ w)
holds_at ks lent z w zb zp fine kinds fits bs e =
    let os : List (Object Cpu) = w.objects in
    let whole : At bs 0 (encode os) = subst (λ xs. At xs 0 (encode os)) (sym e) (at_whole (encode os)) in
    let pt = parts bs os whole in
    let goods = all_good z w zb zp fine bs pt.3.headers_at in
    let placed = placed_all bs (length os) os 0 pt.3.headers_at goods in
    let order = order_all os 0 w.births fine.fits.in_order in
    let few = fine.fits.few in
    let come = objects_come bs os fine.few pt.0 pt.1 pt.2 pt.3 placed order.0 in (
      subst (λ xs. Bytes xs) (sym e) (low_image bs (length os) fine.few os fine.few goods),
      is_taken bs os fine.few pt.0 pt.1 pt.2 pt.3 placed ks lent kinds e few.0 few.1 fits,
      λ i. record { objects = come i; births = (ap births_all come ∙ order.1) i; lineage = sym fine.parted.nothing_made i },
    )

-- the image of an allowed world of kinds that are let in
pub holds_in : (ks : Kinds) (lent : ℕ) (z : Sizes) (w : World Cpu) → z.bytes ≡ 4096 → z.pages ≡ 64 → Allowed z w → Alls (λ _ x. LetIn ks x) 0 w.objects → frames w.objects ≤ min lent 4096
    → Bytes (encode w.objects) × ((c : Census) × (verdict ks lent (encode w.objects) ≡ Ok c)) × (world_of (encode w.objects) ≡ w)
holds_in ks lent z w zb zp fine kinds fits = holds_at ks lent z w zb zp fine kinds fits (encode w.objects) refl

image_of : (ks : Kinds) (z : Sizes) (w : World Cpu) → z.bytes ≡ 4096 → z.pages ≡ 64 → Allowed z w → Alls (λ _ x. LetIn ks x) 0 w.objects → Taken ks (encode w.objects) × (world_of (encode w.objects) ≡ w)
image_of ks z w zb zp fine kinds = let r = holds_in ks 4096 z w zb zp fine kinds fine.fits.few.2 in ((r.0, r.1), r.2)

pub reads_back : ReadsBack
reads_back z w zb zp fine = image_of all_kinds z w zb zp fine (all_let_in w.objects 0)

pub holds : Holds
unfolding HoldsAll
holds = (
  λ z w zb zp zh parted news few fits. let r = reads_back z w zb zp (record { parted = parted; new = news; few = few; fits = fits }) in (encode w.objects, r.0, r.1),
  λ z w zb zp fine thin. let r = image_of built z w zb zp fine (thin_let_in w thin) in (encode w.objects, r.0, r.1),
)
