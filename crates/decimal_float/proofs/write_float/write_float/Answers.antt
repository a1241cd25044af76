use Rattle.decimal_float.proofs.BackLaws.{hex_back}
use Rattle.decimal_float.proofs.write_float.write_float.Goals as goal

pub returns-in-None : goal.returns-in-None
returns-in-None c =
    hex_back c.args.f c.args.bits c.requires.0 c.sizes.result.hex_digits _ _ c.write_hex.result c.sizes.ensures.hex_digits c.write_hex.ensures
