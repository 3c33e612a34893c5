use Rattle.std.proofs.Common.{arith, refl}
use Rattle.std.proofs.lemmas.Simd.{zip2_splat, zip2_of_maps}
use Rattle.tm_printing.specs.Plain.{is_special}
use Rattle.tm_printing.proofs.Plain.{hit, masked}
use Rattle.tm_printing.proofs.html.special_lanes.Goals as goal

pub returns : goal.returns
returns c =
    let v = c.args.lanes in
    let long = c.fits-lanes.0 in
    masked _ is_special v _ (omega arith) c.fits-lanes.1
    (zip2_of_maps _ _ _ v
    (zip2_of_maps _ _ _ v
    (zip2_of_maps _ _ _ v
    (zip2_of_maps _ _ _ v
    (zip2_of_maps _ _ _ v
    (zip2_splat hit v 16 60 long) (zip2_splat hit v 16 62 long))
    (zip2_splat hit v 16 38 long))
    (zip2_splat hit v 16 34 long))
    (zip2_splat hit v 16 39 long))
    (zip2_splat hit v 16 47 long))
    refl
