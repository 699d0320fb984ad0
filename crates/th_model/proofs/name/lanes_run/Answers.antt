use Rattle.std.proofs.Common.{refl, ◌∙◌}
use Rattle.std.proofs.lemmas.Simd.{zip2_of_maps, zip2_splat, splat_is_map}
use Rattle.th_model.specs.Names.{is_name_byte}
use Rattle.th_model.proofs.NameLanes.{lanes_tell}
use Rattle.th_model.proofs.name.lanes_run.Goals as goal

pub returns : goal.returns
returns c =
    let v = c.args.v in
    let long = c.fits-v.0 in
    c.trailing_ones.ensures
    ∙ lanes_tell is_name_byte _ v _ long c.fits-v.1
    (zip2_of_maps _ _ _ v
    (zip2_of_maps _ _ _ v
    (zip2_of_maps _ _ _ v (zip2_splat _ v 16 _ long) (splat_is_map v 16 _ long))
    (zip2_of_maps _ _ _ v (zip2_splat _ v 16 _ long) (splat_is_map v 16 _ long)))
    (zip2_of_maps _ _ _ v (zip2_splat _ v 16 _ long) (zip2_splat _ v 16 _ long)))
    refl
