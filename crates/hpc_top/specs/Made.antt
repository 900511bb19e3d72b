-- What a function over bytes gives, beside the definition's product.
use Rattle.hpc_top.specs.declared.status.Made.{Made}
use Rattle.command_line.specs.declared.product.Product.{Product}

-- its database and its report
abbrev pub product_in : Made → Product
product_in made = record { stored = made.database; text = made.report }
