use Rattle.std.proofs.Common.{◌∙◌, ap, refl}
use Rattle.tm_shapes.specs.Accepts.{all_values, fits, fits_as_taken}
use Rattle.tm_shapes.specs.Searched.{seeds_of}
use Rattle.tm_shapes.proofs.Answering.{on_ok, second_true}
use Rattle.tm_shapes.proofs.verifier.fits_either.Goals as goal

pub returns-clause-found : goal.returns-clause-found
returns-clause-found c =
    let code = c.args.stream.now.code.now in
    let form = c.args.form in
    on_ok c.fits.result _ _ c.fits.ensures.found (λ h. second_true (fits_as_taken form code) (fits all_values form code)
    (h all_values (λ n. refl) (ap seeds_of c.deref-in-Err-BadStream.ensures.value ∙ c.in_ok-seeds.ensures)))
