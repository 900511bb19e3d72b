mod SixNodes
mod Missing
