-- The laws of `values`.
mod Arms
